-- The record of cells: what rows of it become, and where the cell of a sample stands.
use Rattle.std.proofs.Common.{ℕ, ◌+◌, ◌-◌, ◌*◌, ◌<◌, ◌≤◌, ◌≡◌, Bool, true, false, ◌&&◌, cond, get_or, min, nat_le, nat_lt, List, length, refl, ap, arith, ◌∙◌}
use Rattle.std.proofs.lemmas.Bool.Decides.{nat_tests}
use Rattle.std.proofs.lemmas.List.{get_or_default, places}
use borrow.Rule.Slice.PartMut.{put_mid}
use Rattle.av1_frame.specs.declared.plane_region.StoredArea.{StoredArea}
use Rattle.av1_frame.specs.declared.tile_state.CodedBlockInfo.{CodedBlockInfo}
use Rattle.av1_frame.specs.Samples.{corner, in_area, paint, paint_row, part, row_start, with_part}
use Rattle.av1_frame.proofs.Fits.{row_end_le}
use Rattle.av1_frame.proofs.Paint.{length_paint, length-paint_row, paint_at, paint_more}
use Rattle.av1_frame.proofs.Update.{update_is}
use Rattle.av1_avail.specs.Order.{is_in}
use Rattle.av1_order.specs.Neighbours.{last_cell}
use Rattle.av1_order.proofs.Neighbours.{last_cells_lie_inside}
use Rattle.av1_plan.specs.declared.header.Header.{Header}
use Rattle.av1_plan.specs.Geometry.{xdec, ydec, plane_width, plane_height}
use Rattle.av1_plan.specs.ReadPlans.{IsReadFrame}
use Rattle.av1_tile.specs.declared.cells.CodedCells.{CodedCells}
use Rattle.av1_tile.specs.Walk.{HasCells, cell_at, told_by}
use Rattle.av1_tile.proofs.PlanFits.{whole_frame}

-- ---- rows that are filled

part_put : {X : Type 0} (i n : ℕ) (s ws : List X) → i + n ≤ length s → length ws ≡ n → put_mid i n s ws ≡ with_part i s ws
part_put i n s ws h e =
    update_is _ s _ (grind (arith, places)) (λ k d l. grind (arith, places, nat_tests))

-- one more row of a rectangle, all of it filled with v
pub row_filled : {X : Type 0} (stride : ℕ) (a : StoredArea) (r n : ℕ) (v : X) (s t ws : List X) → 0 < stride → a.x + a.width ≤ stride →
    (a.y + a.height) * stride ≤ length s → r < a.height → n ≡ a.width
    → t ≡ paint stride (corner a a.width r) (λ _ _ _. v) s →
    ws ≡ paint_row (length (part (row_start stride a r) n t)) (λ _ _. v) (part (row_start stride a r) n t)
    → put_mid (row_start stride a r) n t ws ≡ paint stride (corner a a.width (r + 1)) (λ _ _ _. v) s
row_filled {X} stride a r n v s t ws some across down below wide painted filled =
    let i = row_start stride a r in
    let w = a.width in
    let f : ℕ → ℕ → X → X = λ _ _ _. v in
    let ends : i + w ≤ (a.y + a.height) * stride = let e = row_end_le (a.y + r) (a.y + a.height) stride (a.x + w) _ refl (omega arith) across
    in omega (arith, e) in
    let long : length t ≡ length s = ap length painted ∙ length_paint stride (corner a w r) f s in
    let few : length (part i n t) ≡ n = grind (arith, places) in
    let row : length ws ≡ n = ap length filled ∙ length-paint_row _ (λ _ _. v) (part i n t) ∙ few in
    let same : ws ≡ paint_row w (λ _ _. v) (part i w t) = filled ∙ ap (λ m. paint_row m (λ _ _. v) (part i n t)) (few ∙ wide)
    ∙ ap (λ m. paint_row w (λ _ _. v) (part i m t)) wide in
    part_put i n t ws (omega arith) row ∙ ap (with_part i t) same ∙ ap (λ u. with_part i u (paint_row w (λ _ _. v) (part i w u))) painted
    ∙ paint_more stride a w r w f s some across (omega arith) (omega arith)

-- ---- cells that are noted

-- the cell at column cx of row cy lies among those of the rows
pub cell_stored : (columns rows n cx cy : ℕ) → rows * columns ≤ n → cx < columns → cy < rows → cy * columns + cx < n
cell_stored columns rows n cx cy e column row = let l = row_end_le cy rows columns (cx + 1) (rows * columns) refl row (omega arith) in omega (arith, l, e)

-- along one direction, a run of w cells from z on that is cut to n cells
cut_run : (z w n i m k : ℕ) → i ≡ min z n → m ≡ min w (n - i) → k < n → (nat_le i k && nat_lt k (i + m)) ≡ (nat_le z k && nat_lt k (z + w))
cut_run z w n i m k e f h = grind (arith, nat_tests)

-- a is the rectangle of w by d cells from x and y on, cut to the record's columns and rows
pub record IsCut (a : StoredArea) (x y w d columns rows : ℕ) : Type 0 where
  pub left : a.x ≡ min x columns
  pub top : a.y ≡ min y rows
  pub width : a.width ≡ min w (columns - a.x)
  pub height : a.height ≡ min d (rows - a.y)

regrouped : (a b c : Bool) → (a && (b && c)) ≡ (a && b && c)
regrouped true b c = refl
regrouped false b c = refl

cut_holds : (a : StoredArea) (x y w d columns rows cx cy : ℕ) → IsCut a x y w d columns rows → cx < columns → cy < rows → in_area a cx cy ≡ is_in cx cy x y w d
unfolding is_in
cut_holds a x y w d columns rows cx cy is column row =
    ap (λ t. t && (nat_le a.y cy && nat_lt cy (a.y + a.height))) (cut_run x w columns a.x a.width cx is.left is.width column)
    ∙ ap (λ t. (nat_le x cx && nat_lt cx (x + w)) && t) (cut_run y d rows a.y a.height cy is.top is.height row)
    ∙ regrouped (nat_le x cx && nat_lt cx (x + w)) (nat_le y cy) (nat_lt cy (y + d))

-- so what is told of each cell is v in the rectangle, and what it was elsewhere
pub cell_noted : {X : Type 0} (a : StoredArea) (x y w d columns rows cx cy : ℕ) (v e : X) (s t : List X) → IsCut a x y w d columns rows →
    rows * columns ≤ length s → cx < columns → cy < rows → t ≡ paint columns a (λ _ _ _. v) s
    → get_or t (cy * columns + cx) e ≡ cond (is_in cx cy x y w d) v (get_or s (cy * columns + cx) e)
cell_noted a x y w d columns rows cx cy v e s t is filled column row painted =
    let k = cy * columns + cx in
    ap (λ l. get_or l k e) painted
    ∙ paint_at columns a (λ _ _ _. v) s cx cy e column (cell_stored columns rows (length s) cx cy filled column row)
    ∙ ap (λ t. cond t v (get_or s k e)) (cut_holds a x y w d columns rows cx cy is column row)

-- ---- the cell of a sample

few_in : (r c : ℕ) → r ≤ 512 → c ≤ 512 → r * c ≤ 262144
few_in r c a b = grind arith

few_cells : (h : Header) (cells : CodedCells) → IsReadFrame h → HasCells h cells → cells.rows * cells.columns ≤ 262144
few_cells h cells read has = few_in cells.rows cells.columns (omega (arith, has.rows, read.height.most)) (omega (arith, has.columns, read.width.most))

-- the sample at column x of row y of plane p, where columns are halved s times and rows t times
module _ (h : Header) (cells : CodedCells) (read : IsReadFrame h) (has : HasCells h cells) (p x y s t cx cy : ℕ) (column : x < plane_width h p)
    (row : y < plane_height h p)
    (across : s ≡ xdec h p) (down : t ≡ ydec h p) (cell_x : cx ≡ last_cell s x) (cell_y : cy ≡ last_cell t y) where
  last_x : cx ≡ last_cell (xdec h p) x
  last_x = cell_x ∙ ap (λ (n : ℕ). last_cell n x) across

  last_y : cy ≡ last_cell (ydec h p) y
  last_y = cell_y ∙ ap (λ (n : ℕ). last_cell n y) down

  -- its cell is one of the frame
  of_frame : cy * cells.columns + cx < cells.rows * cells.columns
  of_frame =
      let inside = last_cells_lie_inside h p (whole_frame h read) x y column row in
      cell_stored cells.columns cells.rows (cells.rows * cells.columns) cx cy (omega arith) (omega (arith, inside.0, last_x, has.columns))
      (omega (arith, inside.1, last_y, has.rows))

  -- of which there are few
  pub cell_early : cy * cells.columns + cx < 262144
  cell_early = let few = few_cells h cells read has in omega (arith, of_frame, few)

  -- and lies in the record
  pub cell_held : cy * cells.columns + cx < length cells.cells.items
  cell_held = omega (arith, of_frame, has.filled)

  -- and tells of it
  pub cell_tells : (v : CodedBlockInfo) → v ≡ get_or cells.cells.items (cy * cells.columns + cx) v → v ≡ told_by h (cell_at cells) p x y
  cell_tells v e =
      e ∙ get_or_default cells.cells.items (cy * cells.columns + cx) v _ cell_held ∙ ap (λ (k : ℕ). cell_at cells k cy) last_x
      ∙ ap (cell_at cells (last_cell (xdec h p) x)) last_y
