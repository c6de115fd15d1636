-- The availability calls, asked at a transform block of a plan, answer what is written.
use Rattle.std.proofs.Common.{◌≡◌, ℕ, ◌+◌, ◌-◌, ◌*◌, ◌/◌, ◌%◌, ◌^◌, ◌<◌, ◌≤◌, min, Bool, true, false, ◌&&◌, ◌||◌, List, ◌∷◌, ◌++◌, Some, inl, inr, refl, sym}
use Rattle.std.proofs.Common.{◌∙◌, ap, arith}
use Rattle.std.specs.Prelude.{nat_lt}
use Rattle.std.proofs.lemmas.Bool.{cases_lt, le-ltb, lt-ltb, ltb-true}
use Rattle.av1_blocks.specs.declared.partition.BlockSize.{BlockSize}
use Rattle.av1_blocks.specs.Blocks.{block_width, block_height}
use Rattle.av1_blocks.specs.Chroma.{supersample_chroma_bsize}
use Rattle.av1_blocks.specs.Transforms.{tx_width, tx_height}
use Rattle.av1_plan.specs.declared.geometry.TransformBlock.{TransformBlock}
use Rattle.av1_plan.specs.declared.header.Header.{Header}
use Rattle.av1_plan.specs.CodingOrder.{IsOnGrid}
use Rattle.av1_plan.specs.Geometry.{xdec, ydec, covers_plane, plane_area, plane_width, plane_height, coded_width, coded_height}
use Rattle.av1_plan.specs.Plan.{LeafValue}
use Rattle.av1_plan.proofs.ValidLeaves.{IsValidLeaf}
use Rattle.av1_avail.specs.Agreement.{top_right_before, bottom_left_before}
use Rattle.av1_avail.specs.Asked.{has_before, takes_above_right, takes_below_left}
use Rattle.av1_avail.specs.Availability.{table_top_right, table_bottom_left}
use Rattle.av1_avail.specs.Cells.{transform_columns, transform_rows}
use Rattle.av1_avail.specs.Order.{is_in}
use Rattle.av1_avail.proofs.TableOrder.{top_right_by_order, bottom_left_by_order}
use Rattle.av1_order.specs.Asked.{IsAsked, IsAnswered}
use Rattle.av1_order.specs.Plans.{IsWholeFrame, is_inter}
use Rattle.av1_order.specs.Samples.{EdgesAreTold, left, top, width_of, height_of, is_covered_sample}
use Rattle.av1_order.specs.Steps.{Step}
use Rattle.av1_order.specs.Turns.{EdgeIsAnswered, EdgesAreAnswered, IsCodedPlan, PlansAreWritten, SidesAreAnswered, SidesAreKnown, answer_above_right}
use Rattle.av1_order.specs.Turns.{answer_below_left, is_written, leaf_block, steps_before, tx_in}
use Rattle.av1_order.proofs.Asked.{cell_in_block, have_at, is_asked}
use Rattle.av1_order.proofs.Blocks.{counted, high_at, is_there, left_at, numbered_at, sizes_at, step_at, top_at, wide_at}
use Rattle.av1_order.proofs.Cuts.{cut_grid, cut_valid}
use Rattle.av1_order.proofs.Each.{IsPlaced}
use Rattle.av1_order.proofs.PlanBlocks.{across_is, visible_units}
use Rattle.av1_order.proofs.PlanEdges.{block_answered, block_edges, block_placed, block_told, plan_written, visible_in}
use Rattle.av1_order.proofs.Planes.{wide_enough}
use Rattle.av1_order.proofs.Plans.{halved_x, halved_y}
use Rattle.av1_order.proofs.Rectangles.{placed as held_cell}
use Rattle.av1_order.proofs.Sizes.{tx_some, tx_units}

-- the visible sides, in units
pub plane_columns : (h : Header) (p : ℕ) → IsWholeFrame h → plane_width h p ≡ 4 * (coded_width h / 4 / 2 ^ xdec h p)
unfolding plane_width
plane_columns h p frame = visible_units (coded_width h) (xdec h p) (halved_x h p) frame.width

pub plane_rows : (h : Header) (p : ℕ) → IsWholeFrame h → plane_height h p ≡ 4 * (coded_height h / 4 / 2 ^ ydec h p)
unfolding plane_height
plane_rows h p frame = visible_units (coded_height h) (ydec h p) (omega (arith, halved_x h p, halved_y h p)) frame.height

-- ---- over plain values

both_true : (a b c : Bool) → a ≡ true → b ≡ true → (a && b && c) ≡ c
both_true true true c e f = refl
both_true true false c e f = absurd cc
both_true false b c e f = absurd cc

and_turned : (a b c : Bool) → (a && b && c) ≡ (b && a && c)
and_turned true true c = refl
and_turned true false c = refl
and_turned false true c = refl
and_turned false false c = refl

end_same : (x w m x' w' m' : ℕ) → x ≡ x' → w ≡ w' → m ≡ m' → nat_lt (x + w) m ≡ nat_lt (x' + w') m'
end_same x w m x' w' m' ex ew em = rw (ex, ew, em) refl

written_above_same : (sx sy : ℕ) (before : List Step) (x w y m k x' w' y' m' k' : ℕ) → x ≡ x' → w ≡ w' → y ≡ y' → m ≡ m' → k ≡ k'
    → (nat_lt 0 y && nat_lt (x + w) m && nat_lt (y - 1) k && is_covered_sample sx sy before (x + w) (y - 1))
    ≡ (nat_lt 0 y' && nat_lt (x' + w') m' && nat_lt (y' - 1) k' && is_covered_sample sx sy before (x' + w') (y' - 1))
written_above_same sx sy before x w y m k x' w' y' m' k' ex ew ey em ek = rw (ex, ew, ey, em, ek) refl

written_left_same : (sx sy : ℕ) (before : List Step) (x y t m k x' y' t' m' k' : ℕ) → x ≡ x' → y ≡ y' → t ≡ t' → m ≡ m' → k ≡ k'
    → (nat_lt 0 x && nat_lt (y + t) k && nat_lt (x - 1) m && is_covered_sample sx sy before (x - 1) (y + t))
    ≡ (nat_lt 0 x' && nat_lt (y' + t') k' && nat_lt (x' - 1) m' && is_covered_sample sx sy before (x' - 1) (y' + t'))
written_left_same sx sy before x y t m k x' y' t' m' k' ex ey et em ek = rw (ex, ey, et, em, ek) refl

in_run : (w t c r i : ℕ) → w ≡ 4 * c → t ≡ 4 * r → i < min w t → i / 4 < min c r
in_run w t c r i ew et h = omega arith

-- ---- a block, and the steps before it

module _ (h : Header) (p : ℕ) (l : LeafValue) (frame : IsWholeFrame h) (grid : IsOnGrid h l) (valid : IsValidLeaf h l) (n : ℕ) (b : TransformBlock)
    (at : leaf_block h p l n ≡ Some b) (before : List Step)
    (asked : IsAsked (xdec h p) (ydec h p) (coded_width h / 4) (coded_height h / 4) before (step_at h p l frame grid valid n)
    (supersample_chroma_bsize l.size (xdec h p) (ydec h p)) (tx_in h p l))
    (answered : IsAnswered (xdec h p) (ydec h p) (coded_width h / 4) (coded_height h / 4) before (step_at h p l frame grid valid n)
    (supersample_chroma_bsize l.size (xdec h p) (ydec h p)) (tx_in h p l))
    (told : EdgesAreTold (xdec h p) (ydec h p) (coded_width h / 4) (coded_height h / 4) before (step_at h p l frame grid valid n))
    (lies : IsPlaced (xdec h p) (ydec h p) (coded_width h / 4) (coded_height h / 4) (step_at h p l frame grid valid n)) where
  abbrev s : Step
  s = step_at h p l frame grid valid n

  abbrev size : BlockSize
  size = supersample_chroma_bsize l.size (xdec h p) (ydec h p)

  low : ydec h p ≤ 1
  low = omega (arith, halved_x h p, halved_y h p)

  x_is : b.x ≡ left (xdec h p) (ydec h p) s
  x_is = left_at h p l frame grid valid n b at

  y_is : b.y ≡ top (xdec h p) (ydec h p) s
  y_is = top_at h p l frame grid valid n b at

  wide : tx_width (tx_in h p l) ≡ width_of (xdec h p) (ydec h p) s
  wide = wide_at h p l frame grid valid n

  high : tx_height (tx_in h p l) ≡ height_of (xdec h p) (ydec h p) s
  high = high_at h p l frame grid valid n

  -- the leaf's cell is one of its block's
  held : is_in (l.x / 4) (l.y / 4) s.block.x s.block.y s.block.columns s.block.rows ≡ true
  held =
      let sx = xdec h p in
      let sy = ydec h p in
      let column = cell_in_block sx s.block.x s.block.columns (l.x / 4) (halved_x h p) refl (wide_enough (block_width l.size / 4) sx) in
      let row = cell_in_block sy s.block.y s.block.rows (l.y / 4) low refl (wide_enough (block_height l.size / 4) sy) in
      held_cell (l.x / 4) (l.y / 4) s.block.x s.block.y s.block.columns s.block.rows (record { left = column.0; right = column.1; top = row.0; bottom = row.1 })

  table_above : (i : ℕ) → i < min (tx_width (tx_in h p l)) (tx_height (tx_in h p l))
      → table_top_right size (l.x / 4) (l.y / 4) (transform_columns (tx_in h p l)) s.down s.right (xdec h p)
      ≡ top_right_before size (l.x / 4) (l.y / 4) (tx_in h p l) s.down s.right (xdec h p) (ydec h p) (i / 4)
  table_above i near =
      let t = tx_in h p l in
      top_right_by_order size t (l.x / 4) (l.y / 4) s.down s.right (xdec h p) (ydec h p) (i / 4) asked.tile
      (in_run (tx_width t) (tx_height t) (transform_columns t) (transform_rows t) i (tx_units t).0 (tx_units t).1 near)

  table_left : (i : ℕ) → i < min (tx_width (tx_in h p l)) (tx_height (tx_in h p l))
      → table_bottom_left size (l.x / 4) (l.y / 4) (transform_rows (tx_in h p l)) s.down s.right (xdec h p) (ydec h p)
      ≡ bottom_left_before size (l.x / 4) (l.y / 4) (tx_in h p l) s.down s.right (xdec h p) (ydec h p) (i / 4)
  table_left i near =
      let t = tx_in h p l in
      bottom_left_by_order size t (l.x / 4) (l.y / 4) s.down s.right (xdec h p) (ydec h p) (i / 4) asked.tile
      (in_run (tx_width t) (tx_height t) (transform_columns t) (transform_rows t) i (tx_units t).0 (tx_units t).1 near)

  some : 0 < min (tx_width (tx_in h p l)) (tx_height (tx_in h p l))
  some = let t = tx_in h p l in omega (arith, (tx_some t).0, (tx_some t).1)

  -- the answers with the step's offsets
  above_is : answer_above_right h p l n b
      ≡ (has_before s.down (l.y / 4) (ydec h p) && nat_lt (b.x + tx_width (tx_in h p l)) (plane_width h p)
      && table_top_right size (l.x / 4) (l.y / 4) (transform_columns (tx_in h p l)) s.down s.right (xdec h p))
  above_is =
      ap (λ a. takes_above_right l.size (l.x / 4) (l.y / 4) (tx_in h p l) (n % a) (n / a) (xdec h p) (ydec h p) b.x (plane_width h p))
      (across_is h p l frame grid valid)

  below_is : answer_below_left h p l n b
      ≡ (nat_lt (b.y + tx_height (tx_in h p l)) (plane_height h p) && has_before s.right (l.x / 4) (xdec h p)
      && table_bottom_left size (l.x / 4) (l.y / 4) (transform_rows (tx_in h p l)) s.down s.right (xdec h p) (ydec h p))
  below_is =
      ap (λ a. takes_below_left l.size (l.x / 4) (l.y / 4) (tx_in h p l) (n % a) (n / a) (xdec h p) (ydec h p) b.y (plane_height h p))
      (across_is h p l frame grid valid)

  pub edge_answered : EdgeIsAnswered h p l before n b
  edge_answered =
      let sx = xdec h p in
      let sy = ydec h p in
      let t = tx_in h p l in
      let cx = l.x / 4 in
      let cy = l.y / 4 in
      let columns = plane_columns h p frame in
      let rows = plane_rows h p frame in
      let have_y = has_before s.down cy sy in
      let have_x = has_before s.right cx sx in
      let in_width = nat_lt (b.x + tx_width t) (plane_width h p) in
      let in_height = nat_lt (b.y + tx_height t) (plane_height h p) in
      let right_table = table_top_right size cx cy (transform_columns t) s.down s.right sx in
      let left_table = table_bottom_left size cx cy (transform_rows t) s.down s.right sx sy in
      let right_before = top_right_before size cx cy t s.down s.right sx sy 0 in
      let left_before = bottom_left_before size cx cy t s.down s.right sx sy 0 in
      record {
        above_right =
            above_is
            ∙ ap (λ (u : Bool). have_y && u && right_table) (end_same b.x (tx_width t) (plane_width h p) _ _ _ x_is wide columns)
            ∙ ap (λ (u : Bool). have_y && nat_lt (left sx sy s + width_of sx sy s) (4 * (coded_width h / 4 / 2 ^ sx)) && u) (table_above 0 some)
            ∙ answered.top_right cx cy refl refl
            ∙ sym (written_above_same sx sy before b.x (tx_width t) b.y (plane_width h p) (plane_height h p) _ _ _ _ _ x_is wide y_is columns rows);
        below_left =
            below_is ∙ and_turned in_height have_x left_table
            ∙ ap (λ (u : Bool). have_x && u && left_table) (end_same b.y (tx_height t) (plane_height h p) _ _ _ y_is high rows)
            ∙ ap (λ (u : Bool). have_x && nat_lt (top sx sy s + height_of sx sy s) (4 * (coded_height h / 4 / 2 ^ sy)) && u) (table_left 0 some)
            ∙ answered.bottom_left cx cy refl refl
            ∙ sym (written_left_same sx sy before b.x b.y (tx_height t) (plane_width h p) (plane_height h p) _ _ _ _ _ x_is y_is high columns rows);
        run_above = λ i near some_rows visible.
            let begun : b.y < plane_height h p = omega (arith, y_is, lies.begins.row, rows) in
            let here = visible_in h p frame (b.x + tx_width t + i) (b.y - 1) visible (omega (arith, begun)) in
            asked.above_right cx cy i (b.x + tx_width t + i) (b.y - 1) held (omega (arith, x_is, wide)) (omega (arith, y_is, some_rows)) here
            ∙ sym (table_above i near)
            ∙ sym (above_is
            ∙ both_true have_y in_width right_table (have_at sy s.down cy s.block.y low refl ∙ lt-ltb 0 (top sx sy s) (omega (arith, y_is, some_rows)))
            (lt-ltb (b.x + tx_width t) (plane_width h p) (omega (arith, visible))));
        run_left = λ i near some_columns visible.
            let begun : b.x < plane_width h p = omega (arith, x_is, lies.begins.column, columns) in
            let here = visible_in h p frame (b.x - 1) (b.y + tx_height t + i) (omega (arith, begun)) visible in
            asked.below_left cx cy i (b.x - 1) (b.y + tx_height t + i) held (omega (arith, x_is, some_columns)) (omega (arith, y_is, high)) here
            ∙ sym (table_left i near)
            ∙ sym (below_is ∙ and_turned in_height have_x left_table
            ∙ both_true have_x in_height left_table (have_at sx s.right cx s.block.x (halved_x h p) refl
            ∙ lt-ltb 0 (left sx sy s) (omega (arith, x_is, some_columns)))
            (lt-ltb (b.y + tx_height t) (plane_height h p) (omega (arith, visible))));
        near = λ x y x1 y1 side in_x in_y.
            told.near x y (omega (arith, x_is, wide, x1)) (omega (arith, y_is, high, y1))
            (elim side [ inl o ↦ inl (omega (arith, x_is, o)) | inr o ↦ inr (omega (arith, y_is, o)) ])
            (visible_in h p frame x y in_x in_y);
      }

-- ---- the places of a side

where_both : (p q r s t : Bool) → (p ≡ true → q ≡ true → (r ≡ true) × (s ≡ t)) → (p && q && r && s) ≡ (p && q && t)
where_both true true r s t f = let e = f refl refl in last_two r s t e.0 e.1
  where
    last_two : (r s t : Bool) → r ≡ true → s ≡ t → (r && s) ≡ t
    last_two true s t e f = f
    last_two false s t e f = absurd cc
where_both true false r s t f = refl
where_both false q r s t f = refl

before_end : (j w : ℕ) (answer : Bool) → j < w → (nat_lt j w || answer) ≡ true
before_end j w answer lt = ap (λ (b : Bool). b || answer) (lt-ltb j w lt)

past_end : (j w : ℕ) (answer : Bool) → w ≤ j → (nat_lt j w || answer) ≡ answer
past_end j w answer le = ap (λ (b : Bool). b || answer) (le-ltb j w le)

pub sides_known : (h : Header) (p : ℕ) (l : LeafValue) (before : List Step) (n : ℕ) (b : TransformBlock) → EdgeIsAnswered h p l before n b
    → b.x < plane_width h p → b.y < plane_height h p → SidesAreKnown h p l before n b
sides_known h p l before n b edge begun_x begun_y =
    let w = tx_width (tx_in h p l) in
    let t = tx_height (tx_in h p l) in
    let some = tx_some (tx_in h p l) in
    record {
      above = λ j near.
          where_both (nat_lt 0 b.y) (nat_lt (b.x + j) (plane_width h p)) (nat_lt (b.y - 1) (plane_height h p)) (is_written h p before (b.x + j) (b.y - 1))
          (nat_lt j w || answer_above_right h p l n b)
          (λ some_rows visible.
          let row = ltb-true 0 b.y some_rows in
          let column = ltb-true (b.x + j) (plane_width h p) visible in
          let answer = answer_above_right h p l n b in (
            lt-ltb (b.y - 1) (plane_height h p) (omega (arith, begun_y)),
            elim (cases_lt j w) [
              | inl own ↦ edge.near (b.x + j) (b.y - 1) (omega (arith, own)) (omega (arith, row)) (inr (omega (arith, row))) column (omega (arith, begun_y))
                  ∙ sym (before_end j w answer own)
              | inr past ↦
                  let place : b.x + j ≡ b.x + w + (j - w) = omega (arith, past) in
                  ap (λ x. is_written h p before x (b.y - 1)) place ∙ edge.run_above (j - w) (omega (arith, near, past)) row (omega (arith, column, past))
                  ∙ sym (past_end j w answer past)
            ],
          ));
      left = λ i near.
          where_both (nat_lt 0 b.x) (nat_lt (b.y + i) (plane_height h p)) (nat_lt (b.x - 1) (plane_width h p)) (is_written h p before (b.x - 1) (b.y + i))
          (nat_lt i t || answer_below_left h p l n b)
          (λ some_columns visible.
          let column = ltb-true 0 b.x some_columns in
          let row = ltb-true (b.y + i) (plane_height h p) visible in
          let answer = answer_below_left h p l n b in (
            lt-ltb (b.x - 1) (plane_width h p) (omega (arith, begun_x)),
            elim (cases_lt i t) [
              | inl own ↦ edge.near (b.x - 1) (b.y + i) (omega (arith, column)) (omega (arith, own)) (inl (omega (arith, column))) (omega (arith, begun_x)) row
                  ∙ sym (before_end i t answer own)
              | inr past ↦
                  let place : b.y + i ≡ b.y + t + (i - t) = omega (arith, past) in
                  ap (λ y. is_written h p before (b.x - 1) y) place ∙ edge.run_left (i - t) (omega (arith, near, past)) column (omega (arith, row, past))
                  ∙ sym (past_end i t answer past)
            ],
          ));
      corner = λ column row.
          edge.near (b.x - 1) (b.y - 1) (omega (arith, column)) (omega (arith, row)) (inl (omega (arith, column))) (omega (arith, begun_x))
          (omega (arith, begun_y));
    }

module _ (h : Header) (p : ℕ) (earlier : List LeafValue) (l : LeafValue) (later : List LeafValue) (is : IsCodedPlan h p (earlier ++ l ∷ later))
    (intra : is_inter l.kind ≡ false) (covered : covers_plane h l.x l.y l.size p ≡ true) (n : ℕ) (b : TransformBlock) (at : leaf_block h p l n ≡ Some b) where
  block_edge : EdgeIsAnswered h p l (steps_before h p earlier l n) n b
  block_edge =
      let frame = is.frame in
      let grid = cut_grid h p earlier l later is in
      let valid = cut_valid h p earlier l later is in
      let trees = is.ordered.0 in
      let ordered = is.ordered.2 in
      let within = counted h p l frame grid valid n b at in
      let numbered = numbered_at h p l frame grid valid n b at in
      let before = steps_before h p earlier l n in
      let size = supersample_chroma_bsize l.size (xdec h p) (ydec h p) in
      let s = step_at h p l frame grid valid n in
      let low : ydec h p ≤ 1 = omega (arith, halved_x h p, halved_y h p) in
      let sizes = sizes_at h p l frame grid valid n in
      let placed = block_placed h p earlier l later trees frame grid valid is.valid ordered intra covered n within s numbered in
      let told = block_told h p earlier l later trees frame grid valid is.valid ordered intra covered n within s numbered in
      edge_answered h p l frame grid valid n b at before
      (is_asked (xdec h p) (ydec h p) (coded_width h / 4) (coded_height h / 4) (halved_x h p) low before s placed told size (tx_in h p l) sizes)
      (block_answered h p earlier l later trees frame grid valid is.valid ordered intra covered n within s numbered size (tx_in h p l) sizes)
      (block_edges h p earlier l later trees frame grid valid is.valid ordered intra covered n within s numbered)
      placed

pub edges_are_answered : EdgesAreAnswered
edges_are_answered h p earlier l later is intra covered n b at = block_edge h p earlier l later is intra covered n b at

pub sides_are_answered : SidesAreAnswered
sides_are_answered h p earlier l later is intra covered n b at =
    let there = is_there h p (plane_area h l.x l.y l.size l.tx_size p) n b at in
    sides_known h p l (steps_before h p earlier l n) n b (block_edge h p earlier l later is intra covered n b at) there.column there.row

pub plans_are_written : PlansAreWritten
plans_are_written h p leaves is x y column row =
    plan_written h p leaves is.ordered.0 is.frame is.valid is.ordered.2 is.ordered.1 x y (visible_in h p is.frame x y column row)
