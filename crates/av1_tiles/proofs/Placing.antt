-- The planes of a frame into which a tile's were placed.
use Rattle.std.proofs.Common.{◌≡◌, ℕ, zero, suc, ◌+◌, ◌-◌, ◌/◌, ◌%◌, ◌^◌, ◌<◌, ◌≤◌, ◌⊎◌, inl, inr, false, List, length, sym, ap, subst, ◌∙◌, arith, slice_index}
use Rattle.std.proofs.lemmas.Bool.Decides.{nat_tests}
use Rattle.av1_lists.specs.Lists.{by_index}
use Rattle.av1_lists.proofs.Lists.{get_or-by_index}
use Rattle.av1_frame.specs.declared.plane.Plane.{Plane}
use Rattle.av1_frame.specs.Areas.{VisibleArea, in_visible}
use Rattle.av1_frame.specs.Planes.{InPlane, sample_at, painted_plane}
use Rattle.av1_frame.proofs.Planes.{sample_at_inside}
use Rattle.av1_plan.specs.declared.header.Header.{Header}
use Rattle.av1_tile.specs.Walk.{IsPlaneOf}
use Rattle.av1_tile.proofs.WithinDepth.{painted_place}
use Rattle.av1_tiles.specs.declared.area.TileArea.{TileArea}
use Rattle.av1_tiles.specs.Bounds.{AreBounds}
use Rattle.av1_tiles.specs.Joined.{placed}
use Rattle.av1_tiles.specs.Tiles.{IsTileArea, tile_header, corner_column, corner_row}
use Rattle.av1_tiles.proofs.Rectangles.{columns_within, rows_within}

-- ---- rectangles that don't meet

-- bounds rise
pub bounds_rise : (side : ℕ) (xs : List ℕ) → AreBounds side xs → (k n : ℕ) → k + n < length xs → slice_index xs k ≤ slice_index xs (k + n)
bounds_rise side xs are k zero lt = let e : k + 0 ≡ k = omega arith in rw e (omega arith)
bounds_rise side xs are k (suc n) lt =
    let before = bounds_rise side xs are k n (omega (arith, lt)) in
    let e : k + suc n ≡ k + n + 1 = omega arith in
    let rise = are.rising (k + n) (omega (arith, lt)) in
    rw e (omega (arith, before, rise))

-- the end of an earlier one doesn't come behind the start of a later one
pub ends_before : (side : ℕ) (xs : List ℕ) → AreBounds side xs → (k m : ℕ) → k < m → m < length xs →
    slice_index xs k + (slice_index xs (k + 1) - slice_index xs k) ≤ slice_index xs m
ends_before side xs are k m lt within =
    let e : k + 1 + (m - (k + 1)) ≡ m = omega (arith, lt) in
    let rise = are.rising k (omega (arith, lt, within)) in
    let later : slice_index xs (k + 1) ≤ slice_index xs m =
    subst (λ (n : ℕ). slice_index xs (k + 1) ≤ slice_index xs n) e (bounds_rise side xs are (k + 1) (m - (k + 1)) (omega (arith, e, within))) in
    omega (arith, rise, later)

-- in a halved plane too, where both begin with a superblock
pub halved_before : (x w z d : ℕ) → d ≤ 1 → x % 64 ≡ 0 → z % 64 ≡ 0 → x + w ≤ z → x / 2 ^ d + (w + d) / 2 ^ d ≤ z / 2 ^ d
halved_before x w z zero le first second h = omega (arith, h)
halved_before x w z (suc zero) le first second h = omega (arith, first, second, h)
halved_before x w z (suc (suc d)) le first second h = absurd (omega (arith, le))

-- a column or row before a rectangle, or behind it, isn't in it
pub outside : (a : VisibleArea) (x y : ℕ) → ((x < a.x) ⊎ (a.x + a.width ≤ x)) ⊎ ((y < a.y) ⊎ (a.y + a.height ≤ y)) → in_visible a x y ≡ false
outside a x y (inl (inl lt)) = grind (arith, nat_tests)
outside a x y (inl (inr le)) = grind (arith, nat_tests)
outside a x y (inr (inl lt)) = grind (arith, nat_tests)
outside a x y (inr (inr le)) = grind (arith, nat_tests)

-- ---- samples

-- the samples of the rectangle are those that were placed there
pub placed_sample : {T : Type 0} (num : T → ℕ) (pixel : ℕ → T) (back : (v : T) → pixel (num v) ≡ v) (there : (v : ℕ) → num (pixel v) ≡ v) (p : Plane T)
    (a : VisibleArea) (row : ℕ → List ℕ) (f : ℕ → ℕ → ℕ)
    → InPlane a p → (x y : ℕ) → x < a.width → y < a.height → row y ≡ by_index a.width (λ x. f x y)
    → sample_at num (painted_plane p a (λ r c _. pixel (slice_index (row r) c))) (a.x + x) (a.y + y) ≡ f x y
placed_sample num pixel back there p a row f fits x y lx ly is =
    sample_at_inside num pixel back p a (λ r c _. pixel (slice_index (row r) c)) y x fits ly lx
    ∙ there (slice_index (row y) x)
    ∙ ap (λ (ns : List ℕ). slice_index ns x) is
    ∙ get_or-by_index a.width (λ x. f x y) x 0 lx

-- ---- planes

-- a tile's rectangle lies in a plane of its frame
pub placed_fits : {T : Type 0} (h tile : Header) (a : TileArea) (p x y : ℕ) (plane : Plane T) → IsPlaneOf h p plane → IsTileArea h a → tile ≡ tile_header h a →
    x ≡ corner_column h a p → y ≡ corner_row h a p → InPlane (placed tile p x y) plane
placed_fits h tile a p x y plane is area tile_is x_is y_is =
    let columns = columns_within h a p area in
    let rows = rows_within h a p area in
    rw (tile_is, x_is, y_is) (record {
      storage = is.whole;
      columns = omega (arith, columns, is.shown_columns, is.whole.visible_columns);
      rows = omega (arith, rows, is.shown_rows, is.whole.visible_rows);
    })

-- a plane of a frame that was painted is one
pub painted_plane_of : {T : Type 0} (h : Header) (p : ℕ) (plane new : Plane T) (a : VisibleArea) (f : ℕ → ℕ → T → T) → IsPlaneOf h p plane →
    new ≡ painted_plane plane a f → IsPlaneOf h p new
painted_plane_of h p plane new a f is e =
    subst (IsPlaneOf h p) (sym e)
    (painted_place h p plane a f is)
