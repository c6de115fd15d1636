-- The rectangle of a plane's samples is a plane of the tile.
use Rattle.std.proofs.Common.{◌≡◌, ℕ, zero, suc, ◌+◌, ◌*◌, ◌/◌, ◌^◌, ◌<◌, ◌≤◌, List, ◌++◌, length, drop, All, refl, sym, ap, subst, ◌∙◌, arith}
use Rattle.std.specs.List.{flat_map, range_with_len}
use Rattle.std.proofs.lemmas.Grind.{flat_map-append}
use Rattle.std.proofs.lemmas.List.{append-nil, length-append, length-take-le, length-drop}
use Rattle.std.proofs.lemmas.List.Elements.{All-nil, All-append, All-take, All-drop}
use Rattle.av1_lists.proofs.Ranges.{range-append}
use Rattle.std.specs.Prelude.{◌==◌, nat_lt, Bool, true, false, if◌then◌else◌}
use Rattle.av1_plan.specs.declared.header.Header.{Header}
use Rattle.av1_plan.specs.Geometry.{xdec, ydec, shown_columns, shown_rows}
use Rattle.av1_plan.specs.ReadPlans.{ArePlane, IsReadFrame}
use Rattle.av1_plan.proofs.Shown.{rows_few}
use Rattle.av1_tiles.specs.declared.area.TileArea.{TileArea}
use Rattle.av1_tiles.specs.Tiles.{IsTileArea, tile_header, corner_column, corner_row, rectangle, tile_plane}

-- one row more
pub rows_more : (f : ℕ → List ℕ) (n : ℕ) → flat_map f (range_with_len 0 (n + 1)) ≡ flat_map f (range_with_len 0 n) ++ f n
rows_more f n =
    ap (flat_map f) (range-append 0 n 1) ∙ flat_map-append f (range_with_len 0 n) (range_with_len (0 + n) 1)
    ∙ ap (λ (xs : List ℕ). flat_map f (range_with_len 0 n) ++ xs) (append-nil (f (0 + n)) ∙ ap f (zero-add n))
  where
    zero-add : (n : ℕ) → 0 + n ≡ n
    zero-add n = omega arith

rows_count : (f : ℕ → List ℕ) (width n : ℕ) → ((k : ℕ) → k < n → length (f k) ≡ width) → length (flat_map f (range_with_len 0 n)) ≡ n * width
rows_count f width zero each = omega arith
rows_count f width (suc n) each =
    let more = rows_more f n in
    let before = rows_count f width n (λ k lt. each k (omega (arith, lt))) in
    let one = each n (omega arith) in
    let next : n + 1 ≡ suc n = omega arith in
    let product : suc n * width ≡ n * width + width = grind arith in
    ap (λ (m : ℕ). length (flat_map f (range_with_len 0 m))) (sym next) ∙ ap length more
    ∙ omega (arith, length-append (flat_map f (range_with_len 0 n)) (f n), before, one, product)

rows_all : (P : ℕ → Type 0) (f : ℕ → List ℕ) (n : ℕ) → ((k : ℕ) → All P (f k)) → All P (flat_map f (range_with_len 0 n))
rows_all P f zero each = All-nil P
rows_all P f (suc n) each =
    let next : n + 1 ≡ suc n = omega arith in
    subst (λ (m : ℕ). All P (flat_map f (range_with_len 0 m))) next
    (subst (All P) (sym (rows_more f n)) (All-append P (flat_map f (range_with_len 0 n)) (f n) (rows_all P f n each) (each n)))

-- a row of the rectangle lies in the plane
row_within : (stride x y width height row n : ℕ) → x + width ≤ stride → (y + height) * stride ≤ n → row < height → (y + row) * stride + x + width ≤ n
row_within stride x y width height row n columns rows lt = omega (arith, lines (y + row) (y + height) stride (omega (arith, lt)), columns, rows)
  where
    lines : (a b s : ℕ) → a + 1 ≤ b → a * s + s ≤ b * s
    lines a b s le = grind arith

pub row_ends : (stride x y width height row n : ℕ) → x + width ≤ stride → (y + height) * stride ≤ n → row < height → (y + row) * stride + x + width ≤ n
row_ends stride x y width height row n columns rows lt = row_within stride x y width height row n columns rows lt

pub rectangle_count : (stride x y width height : ℕ) (samples : List ℕ) → x + width ≤ stride → (y + height) * stride ≤ length samples →
    length (rectangle stride x y width height samples) ≡ height * width
unfolding rectangle
rectangle_count stride x y width height samples columns rows =
    rows_count _ width height (λ row lt. length-take-le width (drop ((y + row) * stride + x) samples)
    (omega (arith, length-drop ((y + row) * stride + x) samples, row_within stride x y width height row (length samples) columns rows lt)))

pub rectangle_all : (P : ℕ → Type 0) (stride x y width height : ℕ) (samples : List ℕ) → All P samples → All P (rectangle stride x y width height samples)
unfolding rectangle
rectangle_all P stride x y width height samples all =
    rows_all P _ height (λ row. All-take P width (drop ((y + row) * stride + x) samples) (All-drop P ((y + row) * stride + x) samples all))

-- ---- tiles

-- a part of a halved side ends in the halved side
halves : (x w s d : ℕ) → d ≤ 1 → x + w ≤ s → x / 2 ^ d + (w + d) / 2 ^ d ≤ (s + d) / 2 ^ d
halves x w s zero le h = omega (arith, h)
halves x w s (suc zero) le h = omega (arith, h)
halves x w s (suc (suc d)) le h = absurd (omega (arith, le))

pub xdec_small : (h : Header) (p : ℕ) → xdec h p ≤ 1
unfolding xdec
xdec_small h zero = omega arith
xdec_small h (suc p) = small (nat_lt h.sampling 2)
  where
    small : (b : Bool) → (if b then 1 else 0) ≤ 1
    small true = omega arith
    small false = omega arith

pub ydec_small : (h : Header) (p : ℕ) → ydec h p ≤ 1
unfolding ydec
ydec_small h zero = omega arith
ydec_small h (suc p) = small (h.sampling == 0)
  where
    small : (b : Bool) → (if b then 1 else 0) ≤ 1
    small true = omega arith
    small false = omega arith

pub same_xdec : (h : Header) (a : TileArea) (p : ℕ) → xdec (tile_header h a) p ≡ xdec h p
unfolding xdec
same_xdec h a zero = refl
same_xdec h a (suc p) = refl

pub same_ydec : (h : Header) (a : TileArea) (p : ℕ) → ydec (tile_header h a) p ≡ ydec h p
unfolding ydec
same_ydec h a zero = refl
same_ydec h a (suc p) = refl

-- a tile's columns and rows end in each plane
pub columns_within : (h : Header) (a : TileArea) (p : ℕ) → IsTileArea h a → corner_column h a p + shown_columns (tile_header h a) p ≤ shown_columns h p
unfolding shown_columns
columns_within h a p is = rw (same_xdec h a p) (halves a.x a.width h.width (xdec h p) (xdec_small h p) is.columns)

pub rows_within : (h : Header) (a : TileArea) (p : ℕ) → IsTileArea h a → corner_row h a p + shown_rows (tile_header h a) p ≤ shown_rows h p
unfolding shown_rows
rows_within h a p is = rw (same_ydec h a p) (halves a.y a.height h.height (ydec h p) (ydec_small h p) is.rows)

pub samples_within : (h : Header) (a : TileArea) (p : ℕ) (samples : List ℕ) → IsTileArea h a → ArePlane h p samples →
    (corner_row h a p + shown_rows (tile_header h a) p) * shown_columns h p ≤ length samples
samples_within h a p samples is are = lines _ (shown_rows h p) (shown_columns h p) (length samples) (rows_within h a p is) are.count
  where
    lines : (n height width count : ℕ) → n ≤ height → count ≡ width * height → n * width ≤ count
    lines n height width count le e = grind arith

pub plane_of_tile : (h : Header) (a : TileArea) (p : ℕ) (samples : List ℕ) → IsTileArea h a → ArePlane h p samples →
    ArePlane (tile_header h a) p (tile_plane h a p samples)
unfolding tile_plane
plane_of_tile h a p samples is are =
    let stride = shown_columns h p in
    let width = shown_columns (tile_header h a) p in
    let height = shown_rows (tile_header h a) p in
    let count = rectangle_count stride (corner_column h a p) (corner_row h a p) width height samples (columns_within h a p is)
    (samples_within h a p samples is are) in
    let turned : height * width ≡ width * height = omega arith in
    record {
      count = count ∙ turned;
      range = rectangle_all (λ v. v < 2 ^ h.depth) stride (corner_column h a p) (corner_row h a p) width height samples are.range;
    }

-- the same of what calls gave
pub columns_by : (h tile : Header) (a : TileArea) (p x dec width stride : ℕ) → IsTileArea h a → tile ≡ tile_header h a → x ≡ a.x → dec ≡ xdec h p →
    width ≡ shown_columns tile p → stride ≡ shown_columns h p → x / 2 ^ dec + width ≤ stride
columns_by h tile a p x dec width stride is tile_is x_is dec_is width_is stride_is = rw (x_is, dec_is, width_is, stride_is, tile_is) (columns_within h a p is)

pub samples_by : (h tile : Header) (a : TileArea) (p y dec height stride : ℕ) (samples : List ℕ) → IsTileArea h a → ArePlane h p samples →
    tile ≡ tile_header h a → y ≡ a.y → dec ≡ ydec h p → height ≡ shown_rows tile p → stride ≡ shown_columns h p
    → (y / 2 ^ dec + height) * stride ≤ length samples
samples_by h tile a p y dec height stride samples is are tile_is y_is dec_is height_is stride_is =
    rw (y_is, dec_is, height_is, stride_is, tile_is) (samples_within h a p samples is are)

-- there are few rows
pub few_by : (h tile : Header) (a : TileArea) (p y dec height : ℕ) → IsReadFrame h → IsTileArea h a → tile ≡ tile_header h a → y ≡ a.y → dec ≡ ydec h p →
    height ≡ shown_rows tile p → y / 2 ^ dec + height ≤ 65536
few_by h tile a p y dec height frame is tile_is y_is dec_is height_is =
    let within = rows_within h a p is in
    rw (y_is, dec_is, height_is, tile_is) (omega (arith, within, rows_few h p, frame.shown_height.within, frame.height.most))

-- the sides of a tile's plane
pub tile_width : (h : Header) (a : TileArea) (p : ℕ) → shown_columns (tile_header h a) p ≡ (a.width + xdec h p) / 2 ^ xdec h p
unfolding shown_columns
tile_width h a p = ap (λ (d : ℕ). (a.width + d) / 2 ^ d) (same_xdec h a p)

pub tile_height : (h : Header) (a : TileArea) (p : ℕ) → shown_rows (tile_header h a) p ≡ (a.height + ydec h p) / 2 ^ ydec h p
unfolding shown_rows
tile_height h a p = ap (λ (d : ℕ). (a.height + d) / 2 ^ d) (same_ydec h a p)
