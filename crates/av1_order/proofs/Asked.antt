-- What is asked of the availability calls is what places tell.
use Rattle.std.proofs.Common.{◌≡◌, ℕ, zero, suc, ◌+◌, ◌-◌, ◌*◌, ◌/◌, ◌%◌, ◌^◌, ◌<◌, ◌≤◌, max, Bool, true, false, ◌&&◌, ◌||◌, ltb, List, take, length, get_or}
use Rattle.std.proofs.Common.{refl, sym, ◌∙◌, ap, arith}
use Rattle.std.proofs.Math.Pow.{pow_mono}
use Rattle.std.proofs.lemmas.Bool.{ltb-true, lt-ltb, true≢false}
use Rattle.std.proofs.lemmas.Bool.Decides.{nat_tests}
use Rattle.av1_blocks.specs.declared.partition.BlockSize.{BlockSize}
use Rattle.av1_blocks.specs.declared.transform.TxSize.{TxSize}
use Rattle.av1_blocks.specs.Blocks.{block_width, block_height}
use Rattle.av1_plan.specs.Tree.{Tree, frame_leaves}
use Rattle.av1_avail.specs.Agreement.{IsTile, top_right_before, bottom_left_before}
use Rattle.av1_avail.specs.Cells.{corner}
use Rattle.av1_avail.specs.Order.{is_in, next_before}
use Rattle.av1_avail.proofs.Shift.{is_earlier-shift, is_in-shift}
use Rattle.av1_avail.proofs.Superblocks.{is_before_in_block-shift}
use Rattle.av1_order.specs.Steps.{Coding, IsFrame, Step, area, steps_of}
use Rattle.av1_order.specs.Places.{told_before}
use Rattle.av1_order.specs.Samples.{left, top, width_of, height_of, is_covered_sample, IsVisible}
use Rattle.av1_order.specs.Asked.{HasSizes, IsAsked, IsAnswered, EdgesAsAsked, CallsAnswerOrder}
use Rattle.av1_order.proofs.Rectangles.{places, placed as held_cell}
use Rattle.av1_order.proofs.Spans.{span_start}
use Rattle.av1_order.proofs.Sizes.{block_units}
use Rattle.av1_order.proofs.Near.{IsStep}
use Rattle.av1_order.proofs.Edges.{told, placed_step}
use Rattle.av1_order.proofs.Planes.{frame_is_ordered}
use Rattle.av1_order.proofs.Each.{IsPlaced}

-- a superblock's side in units
abbrev units : ℕ → ℕ
units s = 16 / 2 ^ s

to_units : (s a : ℕ) → s ≤ 1 → (16 + a) / 2 ^ s ≡ units s + a / 2 ^ s
to_units zero a h = omega arith
to_units (suc zero) a h = omega arith
to_units (suc (suc s)) a h = absurd (omega arith)

to_cells : (s a : ℕ) → s ≤ 1 → (units s + a) * 2 ^ s ≡ 16 + a * 2 ^ s
to_cells zero a h = omega arith
to_cells (suc zero) a h = omega arith
to_cells (suc (suc s)) a h = absurd (omega arith)

node-shift : (k a : ℕ) → k ≤ 4 → (16 + a) - (16 + a) % 2 ^ k ≡ 16 + (a - a % 2 ^ k)
node-shift zero a h = omega arith
node-shift (suc zero) a h = omega arith
node-shift (suc (suc zero)) a h = omega arith
node-shift (suc (suc (suc zero))) a h = omega arith
node-shift (suc (suc (suc (suc zero)))) a h = omega arith
node-shift (suc (suc (suc (suc (suc k))))) a h = absurd (omega arith)

-- over plain numbers
shifted : (sx sy bx by w h th r c X Y : ℕ) → (16 + bx) - (16 + bx) % max w h ≡ 16 + (bx - bx % max w h) →
    (16 + by) - (16 + by) % max w h ≡ 16 + (by - by % max w h)
    → (units sx + X) * 2 ^ sx ≡ 16 + X * 2 ^ sx → (units sy + Y) * 2 ^ sy ≡ 16 + Y * 2 ^ sy → (16 + bx) / 2 ^ sx ≡ units sx + bx / 2 ^ sx →
    (16 + by) / 2 ^ sy ≡ units sy + by / 2 ^ sy
    → next_before (16 + bx) (16 + by) w h sx sy th r c (units sx + X) (units sy + Y) ≡ next_before bx by w h sx sy th r c X Y
unfolding next_before
shifted sx sy bx by w h th r c X Y ex ey fx fy gx gy =
    rw (
      ex,
      ey,
      fx,
      fy,
      gx,
      gy,
      is_in-shift 16 16 (X * 2 ^ sx) (Y * 2 ^ sy) (bx - bx % max w h) (by - by % max w h) (max w h),
      is_before_in_block-shift (units sx) (units sy) (bx / 2 ^ sx) (by / 2 ^ sy) (w / 2 ^ sx) (h / 2 ^ sy) th r c X Y,
      is_earlier-shift 1 1 (X * 2 ^ sx) (Y * 2 ^ sy) (bx - bx % max w h) (by - by % max w h),
    ) refl

module _ (sx sy : ℕ) (hx : sx ≤ 1) (hy : sy ≤ 1) (s : Step) (is : IsStep sx sy s) where
  asked_next : (X Y : ℕ) → next_before (16 + s.block.x) (16 + s.block.y) s.block.columns s.block.rows sx sy s.rows s.down s.right (units sx + X) (units sy + Y)
      ≡ told_before sx sy s X Y
  asked_next X Y =
      let b = s.block in
      let g = is.block.grid in
      shifted sx sy b.x b.y b.columns b.rows s.rows s.down s.right X Y (rw g.side (node-shift g.log b.x g.small)) (rw g.side (node-shift g.log b.y g.small))
      (to_cells sx X hx) (to_cells sy Y hy) (to_units sx b.x hx) (to_units sy b.y hy)

  -- with whichever cell of the block
  corner_at : (cx cy : ℕ) → is_in cx cy s.block.x s.block.y s.block.columns s.block.rows ≡ true
      → (corner s.block.columns cx ≡ 16 + s.block.x) × (corner s.block.rows cy ≡ 16 + s.block.y)
  corner_at cx cy e =
      let b = s.block in
      let g = is.block.grid in
      let p = places cx cy b.x b.y b.columns b.rows e in
      (ap (λ z. 16 + z) (span_start b.columns b.x cx g.across p.left p.right), ap (λ z. 16 + z) (span_start b.rows b.y cy g.along p.top p.bottom))

  module _ (b : BlockSize) (t : TxSize) (z : HasSizes s b t) (cx cy j : ℕ) (e : is_in cx cy s.block.x s.block.y s.block.columns s.block.rows ≡ true) where
    pub asked_right : 1 ≤ (area sx sy s.block).y + s.down
        → top_right_before b cx cy t s.down s.right sx sy j ≡ told_before sx sy s ((area sx sy s.block).x + s.right + s.columns + j)
        ((area sx sy s.block).y + s.down - 1)
    unfolding top_right_before
    asked_right pos =
        let a = area sx sy s.block in
        let k = corner_at cx cy e in
        let ex : (16 + s.block.x) / 2 ^ sx + s.right + s.columns + j ≡ units sx + (a.x + s.right + s.columns + j) = omega (arith, to_units sx s.block.x hx) in
        let ey : (16 + s.block.y) / 2 ^ sy + s.down - 1 ≡ units sy + (a.y + s.down - 1) = omega (arith, to_units sy s.block.y hy) in
        rw (← z.columns, ← z.rows, ← z.wide, ← z.high, k.0, k.1, ex, ey) (asked_next (a.x + s.right + s.columns + j) (a.y + s.down - 1))

    pub asked_left : 1 ≤ (area sx sy s.block).x + s.right
        → bottom_left_before b cx cy t s.down s.right sx sy j ≡ told_before sx sy s ((area sx sy s.block).x + s.right - 1)
        ((area sx sy s.block).y + s.down + s.rows + j)
    unfolding bottom_left_before
    asked_left pos =
        let a = area sx sy s.block in
        let k = corner_at cx cy e in
        let ex : (16 + s.block.x) / 2 ^ sx + s.right - 1 ≡ units sx + (a.x + s.right - 1) = omega (arith, to_units sx s.block.x hx) in
        let ey : (16 + s.block.y) / 2 ^ sy + s.down + s.rows + j ≡ units sy + (a.y + s.down + s.rows + j) = omega (arith, to_units sy s.block.y hy) in
        rw (← z.columns, ← z.rows, ← z.high, k.0, k.1, ex, ey) (asked_next (a.x + s.right - 1) (a.y + s.down + s.rows + j))

  -- the step is one of the transforms that tile its block
  small_side : (side k : ℕ) → side ≡ 4 * (side / 4) → side / 4 ≤ 2 ^ k → k ≤ 4 → side ≤ 64
  small_side side k e h small = let p = pow_mono {i = k} {j = 4} small in omega arith

  pub is_tile : (b : BlockSize) (t : TxSize) → HasSizes s b t → IsTile b t s.down s.right sx sy
  is_tile b t z =
      let g = is.block.grid in
      let tile = is.tile in
      let wide : block_width b / 4 ≤ 2 ^ g.log = rw (← z.columns, ← g.side) (omega arith) in
      let high : block_height b / 4 ≤ 2 ^ g.log = rw (← z.rows, ← g.side) (omega arith) in
      let w = small_side (block_width b) g.log (block_units b).0 wide g.small in
      let h = small_side (block_height b) g.log (block_units b).1 high g.small in
      record {
        small = omega arith;
        halved_x = hx;
        halved_y = hy;
        whole_columns = rw (← z.columns) tile.whole_x;
        whole_rows = rw (← z.rows) tile.whole_y;
        across = rw (← z.columns, ← z.wide) tile.across;
        along = rw (← z.rows, ← z.high) tile.along;
        row_within = rw (← z.rows) tile.down_within;
        row_at = rw (← z.high) tile.down_at;
        column_within = rw (← z.columns) tile.right_within;
        column_at = rw (← z.wide) tile.right_at;
      }

-- what is available
have_plain : (s offset cell u : ℕ) → (s < cell → 0 < u) × (0 < u → s < cell) → (ltb 0 offset || ltb s cell) ≡ ltb 0 (4 * (u + offset))
have_plain s offset cell u f = grind (arith, nat_tests)

both_and : (c d d' : Bool) → c ≡ true → d ≡ d' → d ≡ (c && d')
both_and true d d' e f = f
both_and false d d' e f = absurd (true≢false (sym e))

pub have_at : (s offset cell at : ℕ) → s ≤ 1 → cell - cell % 2 ^ s ≡ at → (ltb 0 offset || ltb s cell) ≡ ltb 0 (4 * (at / 2 ^ s + offset))
have_at s offset cell at h e = have_plain s offset cell (at / 2 ^ s) (unit_row s cell at h e)
  where
    unit_row : (s cell at : ℕ) → s ≤ 1 → cell - cell % 2 ^ s ≡ at → (s < cell → 0 < at / 2 ^ s) × (0 < at / 2 ^ s → s < cell)
    unit_row zero cell at h e = omega arith
    unit_row (suc zero) cell at h e = omega arith
    unit_row (suc (suc s)) cell at h e = absurd (omega arith)

when_both : (a a' b c d d' : Bool) → a ≡ a' → (a' ≡ true → b ≡ true → (c ≡ true) × (d ≡ d')) → (a && b && d) ≡ (a' && b && c && d')
when_both true true true c d d' e f = let p = f refl refl in both_and c d d' p.0 p.1
when_both true true false c d d' e f = refl
when_both false false b c d d' e f = refl
when_both true false b c d d' e f = absurd (true≢false e)
when_both false true b c d d' e f = absurd (true≢false (sym e))

pub cell_in_block : (s at side cell : ℕ) → s ≤ 1 → cell - cell % 2 ^ s ≡ at → 2 ^ s ≤ side → (at ≤ cell) × (cell < at + side)
cell_in_block zero at side cell h e w = omega arith
cell_in_block (suc zero) at side cell h e w = omega arith
cell_in_block (suc (suc s)) at side cell h e w = absurd (omega arith)

past : (n w i x : ℕ) → x ≡ 4 * n + 4 * w + i → x / 4 ≡ n + w + i / 4
past n w i x e = omega arith

one_before : (n y : ℕ) → y + 1 ≡ 4 * n → (1 ≤ n) × (y / 4 ≡ n - 1)
one_before n y e = omega arith

-- a step of a plane, and the steps before it
module _ (sx sy width height : ℕ) (hx : sx ≤ 1) (hy : sy ≤ 1) (before : List Step) (s : Step) (placed : IsPlaced sx sy width height s)
    (told : (x y : ℕ) → IsVisible sx sy width height x y → is_covered_sample sx sy before x y ≡ told_before sx sy s (x / 4) (y / 4))
    (b : BlockSize) (t : TxSize) (z : HasSizes s b t) where
  pub is_asked : IsAsked sx sy width height before s b t
  is_asked =
      let a = area sx sy s.block in
      record {
        tile = is_tile sx sy hx hy s placed.step b t z;
        above_right = λ cx cy i x y e ex ey here.
            let row = one_before (a.y + s.down) y ey in
            told x y here
            ∙ ap (λ u. told_before sx sy s u (y / 4)) (past (a.x + s.right) s.columns i x ex)
            ∙ ap (λ v. told_before sx sy s (a.x + s.right + s.columns + i / 4) v) row.1
            ∙ sym (asked_right sx sy hx hy s placed.step b t z cx cy (i / 4) e row.0);
        below_left = λ cx cy i x y e ex ey here.
            let column = one_before (a.x + s.right) x ex in
            told x y here
            ∙ ap (λ u. told_before sx sy s u (y / 4)) column.1
            ∙ ap (λ v. told_before sx sy s (a.x + s.right - 1) v) (past (a.y + s.down) s.rows i y ey)
            ∙ sym (asked_left sx sy hx hy s placed.step b t z cx cy (i / 4) e column.0);
      }

  in_block : (cx cy : ℕ) → cx - cx % 2 ^ sx ≡ s.block.x → cy - cy % 2 ^ sy ≡ s.block.y → is_in cx cy s.block.x s.block.y s.block.columns s.block.rows ≡ true
  in_block cx cy ex ey =
      let tile = placed.step.tile in
      let p = cell_in_block sx s.block.x s.block.columns cx hx ex tile.whole_x in
      let q = cell_in_block sy s.block.y s.block.rows cy hy ey tile.whole_y in
      held_cell cx cy s.block.x s.block.y s.block.columns s.block.rows (record { left = p.0; right = p.1; top = q.0; bottom = q.1 })

  pub is_answered : IsAnswered sx sy width height before s b t
  is_answered =
      let a = area sx sy s.block in
      let tile = placed.step.tile in
      let end = left sx sy s + width_of sx sy s in
      let foot = top sx sy s + height_of sx sy s in
      record {
        top_right = λ cx cy ex ey.
            when_both (ltb 0 s.down || ltb sy cy) (ltb 0 (top sx sy s)) (ltb end (4 * (width / 2 ^ sx))) (ltb (top sx sy s - 1) (4 * (height / 2 ^ sy)))
            (top_right_before b cx cy t s.down s.right sx sy 0) (is_covered_sample sx sy before end (top sx sy s - 1))
            (have_at sy s.down cy s.block.y hy ey)
            (λ e f.
            let one = ltb-true 0 (top sx sy s) e in
            let column = ltb-true end (4 * (width / 2 ^ sx)) f in
            let row : top sx sy s - 1 < 4 * (height / 2 ^ sy) = omega (arith, placed.begins.row) in (
              lt-ltb (top sx sy s - 1) (4 * (height / 2 ^ sy)) row,
              sym (is_asked.above_right cx cy 0 end (top sx sy s - 1) (in_block cx cy ex ey) (omega arith) (omega arith)
                  (record { column = column; row = row })),
            ));
        bottom_left = λ cx cy ex ey.
            when_both (ltb 0 s.right || ltb sx cx) (ltb 0 (left sx sy s)) (ltb foot (4 * (height / 2 ^ sy))) (ltb (left sx sy s - 1) (4 * (width / 2 ^ sx)))
            (bottom_left_before b cx cy t s.down s.right sx sy 0) (is_covered_sample sx sy before (left sx sy s - 1) foot)
            (have_at sx s.right cx s.block.x hx ex)
            (λ e f.
            let one = ltb-true 0 (left sx sy s) e in
            let low = ltb-true foot (4 * (height / 2 ^ sy)) f in
            let column : left sx sy s - 1 < 4 * (width / 2 ^ sx) = omega (arith, placed.begins.column) in (
              lt-ltb (left sx sy s - 1) (4 * (width / 2 ^ sx)) column,
              sym (is_asked.below_left cx cy 0 (left sx sy s - 1) foot (in_block cx cy ex ey) (omega arith) (omega arith)
                  (record { column = column; row = low })),
            ));
      }

-- in the order of a frame
module _ (sx sy width height : ℕ) (trees : List (Tree Coding 4)) (is : IsFrame sx sy width height trees) (k : ℕ) (none : Step)
    (lt : k < length (steps_of sx sy width height trees)) where
  not_more : sy ≤ 1
  not_more = omega (arith, is.halved_x, is.halved_y)

  placed_in_frame : IsPlaced sx sy width height (get_or (steps_of sx sy width height trees) k none)
  placed_in_frame =
      placed_step sx sy width height (length trees) (frame_leaves width height trees) (frame_is_ordered sx sy width height trees is) k none lt

  told_in_frame : (x y : ℕ) → IsVisible sx sy width height x y
      → is_covered_sample sx sy (take k (steps_of sx sy width height trees)) x y ≡ told_before sx sy (get_or (steps_of sx sy width height trees) k none) (x / 4)
      (y / 4)
  told_in_frame = told sx sy width height (length trees) (frame_leaves width height trees) (frame_is_ordered sx sy width height trees is) k none lt

  asked_in_frame : (b : BlockSize) (t : TxSize) → HasSizes (get_or (steps_of sx sy width height trees) k none) b t
      → IsAsked sx sy width height (take k (steps_of sx sy width height trees)) (get_or (steps_of sx sy width height trees) k none) b t
  asked_in_frame =
      is_asked sx sy width height is.halved_x not_more (take k (steps_of sx sy width height trees)) (get_or (steps_of sx sy width height trees) k none)
      placed_in_frame told_in_frame

  answered_in_frame : (b : BlockSize) (t : TxSize) → HasSizes (get_or (steps_of sx sy width height trees) k none) b t
      → IsAnswered sx sy width height (take k (steps_of sx sy width height trees)) (get_or (steps_of sx sy width height trees) k none) b t
  answered_in_frame =
      is_answered sx sy width height is.halved_x not_more (take k (steps_of sx sy width height trees)) (get_or (steps_of sx sy width height trees) k none)
      placed_in_frame told_in_frame

pub edges_as_asked : EdgesAsAsked
edges_as_asked sx sy width height trees is k none lt = asked_in_frame sx sy width height trees is k none lt

pub calls_answer_order : CallsAnswerOrder
calls_answer_order sx sy width height trees is k none lt = answered_in_frame sx sy width height trees is k none lt
