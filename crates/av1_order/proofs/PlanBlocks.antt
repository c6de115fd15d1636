-- The steps of a plan's leaves are their transform blocks.
use Rattle.std.proofs.Common.{◌≡◌, ℕ, zero, suc, ◌+◌, ◌*◌, ◌/◌, ◌%◌, ◌^◌, ◌<◌, ◌≤◌, max, Bool, true, false, ◌&&◌, List, [], ◌∷◌, map, Option, None, Some}
use Rattle.std.proofs.Common.{option_map, refl, sym, ◌∙◌, ap, arith}
use Rattle.std.specs.Prelude.{nat_lt, if◌then◌else◌}
use Rattle.std.specs.List.{filter_map, range_with_len, cons_option}
use Rattle.std.proofs.Math.Nat.{mul-div-mul_left, mul_comm}
use Rattle.av1_blocks.specs.Blocks.{block_width, block_height}
use Rattle.av1_blocks.specs.Transforms.{tx_width, tx_height}
use Rattle.av1_plan.specs.declared.header.Header.{Header}
use Rattle.av1_plan.specs.Geometry.{xdec, ydec, covers_plane, plane_size, plane_tx_size, plane_area, plane_width, plane_height, blocks_across, block_count}
use Rattle.av1_plan.specs.Geometry.{coded_width, coded_height}
use Rattle.av1_plan.specs.Geometry.{block_at, has_block, transform_block, transform_blocks}
use Rattle.av1_plan.specs.CodingOrder.{cells_of, IsOnGrid}
use Rattle.av1_plan.specs.Plan.{LeafValue}
use Rattle.av1_plan.proofs.ValidLeaves.{IsValidLeaf, valid_leaf}
use Rattle.std.proofs.lemmas.Bool.{true≢false, lt-ltb}
use Rattle.av1_plan.specs.declared.geometry.TransformBlock.{TransformBlock}
use Rattle.av1_order.proofs.Halved.{ltb_same}
use Rattle.av1_order.specs.Steps.{Step, carries, block_steps, widened, area}
use Rattle.av1_order.specs.Plans.{IsWholeFrame, coding_in, is_inter, place_of, steps_in, LeavesHaveTheirBlocks}
use Rattle.av1_order.proofs.Numbered.{numbered, block_numbered}
use Rattle.av1_plan.specs.declared.geometry.PlaneArea.{PlaneArea}
use Rattle.av1_plan.specs.Tree.{Block}
use Rattle.av1_order.proofs.Sizes.{tx_units}
use Rattle.av1_order.proofs.Plans.{halved_x, halved_y, luma_x, luma_y, carries_is, place_is, in_plane_block}

chosen : (o : Option Step) (place : Step → TransformBlock) (ss : List Step) → map place (cons_option o ss) ≡ cons_option (option_map place o) (map place ss)
chosen (Some s) place ss = refl
chosen None place ss = refl

-- two ways to number rectangles, where they agree on each number
same_numbered : (f : ℕ → Option Step) (g : ℕ → Option TransformBlock) (place : Step → TransformBlock) (a n : ℕ)
    → ((i : ℕ) → i < a + n → option_map place (f i) ≡ g i) → map place (filter_map f (range_with_len a n)) ≡ filter_map g (range_with_len a n)
same_numbered f g place a zero same = refl
same_numbered f g place a (suc n) same =
    chosen (f a) place (filter_map f (range_with_len (a + 1) n))
    ∙ ap (λ o. cons_option o (map place (filter_map f (range_with_len (a + 1) n)))) (same a (omega arith))
    ∙ ap (λ ss. cons_option (g a) ss) (same_numbered f g place (a + 1) n (λ i h. same i (omega arith)))

in_units : (X k c W : ℕ) → nat_lt (4 * X + k * (4 * c)) (4 * W) ≡ nat_lt (X + k * c) W
in_units X k c W = ltb_same (4 * X + k * (4 * c)) (4 * W) (X + k * c) W (λ a. omega arith) (λ a. omega arith)

in_samples : (X k c : ℕ) → 4 * X + k * (4 * c) ≡ 4 * (X + k * c)
in_samples X k c = omega arith

through : (t : Bool) (s : Step) (place : Step → TransformBlock) → option_map place (if t then Some s else None) ≡ (if t then Some (place s) else None)
through true s place = refl
through false s place = refl

-- the block of a number, in units
number_is : (h : Header) (p : ℕ) (a : PlaneArea) (X Y C c r W H n : ℕ) → a.x ≡ 4 * X → a.y ≡ 4 * Y → tx_width a.tx_size ≡ 4 * c → tx_height a.tx_size ≡ 4 * r
    → plane_width h p ≡ 4 * W → plane_height h p ≡ 4 * H → blocks_across a ≡ C → nat_lt n (block_count a) ≡ true
    → transform_block h p a n
    ≡ (if nat_lt (X + n % C * c) W && nat_lt (Y + n / C * r) H then Some (record { x = 4 * (X + n % C * c); y = 4 * (Y + n / C * r) }) else None)
unfolding transform_block has_block block_at
number_is h p a X Y C c r W H n ex ey ec er ew eh ea lt =
    rw (
      ea,
      lt,
      ex,
      ey,
      ec,
      er,
      ew,
      eh,
      in_units X (n % C) c W,
      in_units Y (n / C) r H,
      in_samples X (n % C) c,
      in_samples Y (n / C) r,
    ) refl

pub visible_units : (side s : ℕ) → s ≤ 1 → side % 8 ≡ 0 → side / 2 ^ s ≡ 4 * (side / 4 / 2 ^ s)
visible_units side zero h e = omega arith
visible_units side (suc zero) h e = omega arith
visible_units side (suc (suc s)) h e = absurd (omega arith)

quotient : (m n C c : ℕ) → m ≡ 4 * C → n ≡ 4 * c → m / n ≡ C / c
quotient m n C c em en = ap (λ z. z / n) em ∙ ap (λ z. 4 * C / z) en ∙ mul-div-mul_left {m = 4} C c (omega arith)

module _ (h : Header) (p : ℕ) (l : LeafValue) (frame : IsWholeFrame h) (grid : IsOnGrid h l) (valid : IsValidLeaf h l) where
  -- a block in its plane, in units, and how it is coded there
  abbrev pub units_in : Block
  units_in = area (xdec h p) (ydec h p) (widened (xdec h p) (ydec h p) (cells_of l))

  abbrev pub area_in : PlaneArea
  area_in = plane_area h l.x l.y l.size l.tx_size p

  pub across_is : blocks_across area_in ≡ units_in.columns / (coding_in h p l).columns
  unfolding blocks_across plane_area plane_size
  across_is =
      quotient (block_width (plane_size h l.size p)) (tx_width (plane_tx_size h l.size l.tx_size p))
      (max (block_width l.size / 4) (2 ^ xdec h p) / 2 ^ xdec h p)
      (tx_width (plane_tx_size h l.size l.tx_size p) / 4) (in_plane_block h l.size p valid.size).width (tx_units (plane_tx_size h l.size l.tx_size p)).0

  pub count_is : block_count area_in ≡ units_in.rows / (coding_in h p l).rows * (units_in.columns / (coding_in h p l).columns)
  unfolding block_count plane_area plane_size
  count_is =
      let down =
      quotient (block_height (plane_size h l.size p)) (tx_height (plane_tx_size h l.size l.tx_size p))
      (max (block_height l.size / 4) (2 ^ ydec h p) / 2 ^ ydec h p)
      (tx_height (plane_tx_size h l.size l.tx_size p) / 4) (in_plane_block h l.size p valid.size).height (tx_units (plane_tx_size h l.size l.tx_size p)).1 in
      let a = area_in in
      ap (λ z. z * (block_height a.size / tx_height a.tx_size)) across_is
      ∙ ap (λ z. units_in.columns / (coding_in h p l).columns * z) down
      ∙ mul_comm (units_in.columns / (coding_in h p l).columns) (units_in.rows / (coding_in h p l).rows)

  abbrev pub numbered_in : ℕ → Option Step
  numbered_in = numbered (xdec h p) (ydec h p) (coded_width h / 4) (coded_height h / 4) (widened (xdec h p) (ydec h p) (cells_of l)) (coding_in h p l)

  -- the columns and rows of transforms left of number n and above it
  abbrev pub column_of : ℕ → ℕ
  column_of n = n % (units_in.columns / (coding_in h p l).columns)

  abbrev pub row_of : ℕ → ℕ
  row_of n = n / (units_in.columns / (coding_in h p l).columns)

  abbrev pub begins : ℕ → Bool
  begins n =
      nat_lt (units_in.x + column_of n * (coding_in h p l).columns) (coded_width h / 4 / 2 ^ xdec h p)
      && nat_lt (units_in.y + row_of n * (coding_in h p l).rows) (coded_height h / 4 / 2 ^ ydec h p)

  -- block n, where it begins in the visible plane
  pub block_is : (n : ℕ) → n < block_count area_in
      → transform_block h p area_in n
      ≡ (if begins n
      then Some (record { x = 4 * (units_in.x + column_of n * (coding_in h p l).columns); y = 4 * (units_in.y + row_of n * (coding_in h p l).rows) })
      else None)
  unfolding plane_area plane_width plane_height
  block_is n lt =
      let t = plane_tx_size h l.size l.tx_size p in
      let low : ydec h p ≤ 1 = omega (arith, halved_x h p, halved_y h p) in
      number_is h p area_in units_in.x units_in.y (units_in.columns / (coding_in h p l).columns) (tx_width t / 4) (tx_height t / 4)
      (coded_width h / 4 / 2 ^ xdec h p) (coded_height h / 4 / 2 ^ ydec h p) n
      (place_is p l.x (xdec h p) (halved_x h p) (luma_x h p) grid.cell_x) (place_is p l.y (ydec h p) low (luma_y h p) grid.cell_y)
      (tx_units t).0 (tx_units t).1 (visible_units (coded_width h) (xdec h p) (halved_x h p) frame.width)
      (visible_units (coded_height h) (ydec h p) low frame.height) across_is
      (lt-ltb n (block_count area_in) lt)

  pub same_number : (n : ℕ) → n < block_count area_in → option_map (place_of (xdec h p) (ydec h p)) (numbered_in n) ≡ transform_block h p area_in n
  same_number n lt =
      let c = coding_in h p l in
      let s : Step = record {
        block = widened (xdec h p) (ydec h p) (cells_of l);
        right = column_of n * c.columns;
        down = row_of n * c.rows;
        columns = c.columns;
        rows = c.rows;
      } in
      through (begins n) s (place_of (xdec h p) (ydec h p)) ∙ sym (block_is n lt)

  coded_steps : (carried inter : Bool) → carried ≡ true → inter ≡ false → (once by_blocks : List Step) →
      (if carried then (if inter then once else by_blocks) else []) ≡ by_blocks
  coded_steps true false e f once by_blocks = refl
  coded_steps false inter e f once by_blocks = absurd (true≢false (sym e))
  coded_steps true true e f once by_blocks = absurd (true≢false f)

  -- the steps of a leaf that is not inter, by the numbers of its transform blocks
  pub leaf_numbered : is_inter l.kind ≡ false → covers_plane h l.x l.y l.size p ≡ true →
      steps_in h p l ≡ filter_map numbered_in (range_with_len 0 (block_count area_in))
  leaf_numbered intra covered =
      let b = widened (xdec h p) (ydec h p) (cells_of l) in
      let c = coding_in h p l in
      let a = units_in in
      let rows = a.rows / c.rows in
      let by_blocks = block_steps (xdec h p) (ydec h p) (coded_width h / 4) (coded_height h / 4) b c 0 rows in
      let once : List Step = record { block = b; right = 0; down = 0; columns = a.columns; rows = a.rows } ∷ [] in
      coded_steps (carries (xdec h p) (ydec h p) (cells_of l)) (is_inter l.kind) (carries_is h p l ∙ covered) intra once by_blocks
      ∙ block_numbered (xdec h p) (ydec h p) (coded_width h / 4) (coded_height h / 4) b c rows
      ∙ ap (λ n. filter_map numbered_in (range_with_len 0 n)) (sym count_is)

  blocks_covered : is_inter l.kind ≡ false → covers_plane h l.x l.y l.size p ≡ true →
      map (place_of (xdec h p) (ydec h p)) (steps_in h p l) ≡ transform_blocks h p area_in
  unfolding transform_blocks
  blocks_covered intra covered =
      let place = place_of (xdec h p) (ydec h p) in
      ap (map place) (leaf_numbered intra covered)
      ∙ same_numbered numbered_in (transform_block h p area_in) place 0 (block_count area_in) (λ n lt. same_number n (omega arith))

  no_steps : (carried : Bool) → carried ≡ false → (ss : List Step) → (if carried then ss else []) ≡ []
  no_steps false e ss = refl
  no_steps true e ss = absurd (true≢false e)

  pub uncovered : covers_plane h l.x l.y l.size p ≡ false → steps_in h p l ≡ []
  uncovered e =
      let b = widened (xdec h p) (ydec h p) (cells_of l) in
      let c = coding_in h p l in
      let a = units_in in
      let by_blocks = block_steps (xdec h p) (ydec h p) (coded_width h / 4) (coded_height h / 4) b c 0 (a.rows / c.rows) in
      let once : List Step = record { block = b; right = 0; down = 0; columns = a.columns; rows = a.rows } ∷ [] in
      no_steps (carries (xdec h p) (ydec h p) (cells_of l)) (carries_is h p l ∙ e) (if is_inter l.kind then once else by_blocks)

pub leaves_have_their_blocks : LeavesHaveTheirBlocks
leaves_have_their_blocks h p l frame grid valid intra =
    let v = valid_leaf h l valid in
    record { covered = blocks_covered h p l frame grid v intra; uncovered = uncovered h p l frame grid v }
