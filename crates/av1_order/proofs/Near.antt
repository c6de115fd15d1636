-- What lies round a step: its left, above and corner units are written, and its runs right of and below it are written whole or not at all.
use Rattle.std.proofs.Common.{◌≡◌, ℕ, zero, suc, ◌+◌, ◌*◌, ◌/◌, ◌%◌, ◌^◌, ◌<◌, ◌≤◌, ◌⊎◌, Bool, true, inl, inr, refl, sym, ◌∙◌, ap, arith}
use Rattle.std.specs.Prelude.{if◌then◌else◌}
use Rattle.std.proofs.lemmas.Bool.{cases_lt, false_from_ne_true}
use Rattle.std.proofs.lemmas.Bool.Decides.{nat_tests}
use Rattle.av1_avail.specs.Order.{next_before, is_in, is_before_in_block, is_earlier}
use Rattle.av1_order.specs.Steps.{Step, area}
use Rattle.av1_order.specs.Places.{told_before}
use Rattle.av1_order.proofs.Nodes.{node_x, node_y}
use Rattle.av1_order.proofs.Rectangles.{Places, places, placed}
use Rattle.av1_order.proofs.Earlier.{always_earlier, same_earlier}
use Rattle.std.proofs.Math.Nat.{add-mod_right}
use Rattle.std.proofs.lemmas.Nat.{pow_pos}
use Rattle.av1_order.proofs.Spans.{same_span}
use Rattle.av1_order.proofs.Units.{early}
use Rattle.av1_order.proofs.Grid.{IsUnitBlock, node_in_units, place_units, room_units}

-- The cells left of and above an aligned square, in its rows and columns too, are coded before it.
pub near_earlier : (k x y nx ny : ℕ) → k ≤ 4 → nx % 2 ^ k ≡ 0 → ny % 2 ^ k ≡ 0 → x < nx + 2 ^ k → y < ny + 2 ^ k → (x < nx) ⊎ (y < ny) →
    is_earlier x y nx ny ≡ true
near_earlier k x y nx ny h hx hy x1 y1 near = go (cases_lt x nx) (cases_lt y ny)
  where
    go : (x < nx) ⊎ (nx ≤ x) → (y < ny) ⊎ (ny ≤ y) → is_earlier x y nx ny ≡ true
    go (inl a) (inl b) = always_earlier x y nx ny (omega arith) (omega arith) (inl a)
    go (inl a) (inr b) =
        same_earlier k x y x ny nx ny h refl (same_span (2 ^ k) ny y ny hy b y1 (omega arith) (let p = pow_pos k in omega arith)) hx hy
        ∙ always_earlier x ny nx ny (omega arith) (omega arith) (inl a)
    go (inr a) (inl b) =
        same_earlier k x y nx y nx ny h (same_span (2 ^ k) nx x nx hx a x1 (omega arith) (let p = pow_pos k in omega arith)) refl hx hy
        ∙ always_earlier nx y nx ny (omega arith) (omega arith) (inr b)
    go (inr a) (inr b) = absurd (omega arith)

near_plain : (bx by w h th r c x y : ℕ) → x < bx + w → y < by + h → y < by + r + th → (x < bx + c) ⊎ (y < by + r) →
    is_before_in_block bx by w h th r c x y ≡ true
unfolding is_before_in_block
near_plain bx by w h th r c x y hx hy y1 near = grind (arith, nat_tests)

right_plain : (bx by w h th r c tw j v : ℕ) → (c + tw ≡ w) ⊎ (c + 2 * tw ≤ w) → v < by + r → v < by + h → j < tw → v + 1 ≡ by + r
    → is_before_in_block bx by w h th r c (bx + c + tw + j) v ≡ is_before_in_block bx by w h th r c (bx + c + tw) v
unfolding is_before_in_block
right_plain bx by w h th r c tw j v next low low' hj hv = grind (arith, nat_tests)

down_plain : (bx by w h th r c j u : ℕ) → u + 1 ≡ bx + c
    → is_before_in_block bx by w h th r c u (by + r + th + j) ≡ is_before_in_block bx by w h th r c u (by + r + th)
unfolding is_before_in_block
down_plain bx by w h th r c j u hu = grind (arith, nat_tests)

-- over plain numbers, and whatever is coded before the node
module _ (early : ℕ → ℕ → Bool) (nx ny s t bx by w h tw th r c : ℕ)
    (near : (x y : ℕ) → x < nx + s → y < ny + t → (x < nx) ⊎ (y < ny) → early x y ≡ true)
    (beside : (x x' y : ℕ) → nx + s ≤ x → x < nx + 2 * s → nx + s ≤ x' → x' < nx + 2 * s → early x y ≡ early x' y)
    (below : (x y y' : ℕ) → ny + t ≤ y → y < ny + 2 * t → ny + t ≤ y' → y' < ny + 2 * t → early x y ≡ early x y')
    (left : nx ≤ bx) (top : ny ≤ by)
    (room_x : (bx + w ≡ nx + s) ⊎ (bx + 2 * w ≤ nx + s)) (room_y : (by + h ≡ ny + t) ⊎ (by + 2 * h ≤ ny + t))
    (next_x : (c + tw ≡ w) ⊎ (c + 2 * tw ≤ w)) (next_y : (r + th ≡ h) ⊎ (r + 2 * th ≤ h)) where
  abbrev before : (x y : ℕ) → Bool
  before x y = if is_in x y nx ny s t then is_before_in_block bx by w h th r c x y else early x y

  inside : (x y : ℕ) → nx ≤ x → x < nx + s → ny ≤ y → y < ny + t → before x y ≡ is_before_in_block bx by w h th r c x y
  inside x y a b d e = rw (placed x y nx ny s t (record { left = a; right = b; top = d; bottom = e })) refl

  outside : (x y : ℕ) → (Places x y nx ny s t → ⊥) → before x y ≡ early x y
  outside x y f = rw (false_from_ne_true (is_in x y nx ny s t) (λ e. f (places x y nx ny s t e))) refl

  near_before : (x y : ℕ) → x < bx + c + tw → y < by + r + th → (x < bx + c) ⊎ (y < by + r) → before x y ≡ true
  near_before x y x1 y1 close = go (cases_lt x nx) (cases_lt y ny)
    where
      out : (x < nx) ⊎ (y < ny) → before x y ≡ true
      out o = outside x y (λ p. let a = p.left in let b = p.top in omega arith) ∙ near x y (omega arith) (omega arith) o

      go : (x < nx) ⊎ (nx ≤ x) → (y < ny) ⊎ (ny ≤ y) → before x y ≡ true
      go (inl a) _ = out (inl a)
      go (inr a) (inl b) = out (inr b)
      go (inr a) (inr b) = inside x y a (omega arith) b (omega arith) ∙ near_plain bx by w h th r c x y (omega arith) (omega arith) y1 close

  -- the run right of the step, one row above it
  run_right : (j v : ℕ) → j < tw → v + 1 ≡ by + r → before (bx + c + tw + j) v ≡ before (bx + c + tw) v
  run_right j v hj hv = go (cases_lt (bx + c + tw) (nx + s)) (cases_lt v ny)
    where
      go : (bx + c + tw < nx + s) ⊎ (nx + s ≤ bx + c + tw) → (v < ny) ⊎ (ny ≤ v) → before (bx + c + tw + j) v ≡ before (bx + c + tw) v
      go (inl a) (inl b) =
          let fits : bx + c + tw + j < nx + s = omega arith in
          outside (bx + c + tw + j) v (λ p. let o = p.top in omega arith)
          ∙ near (bx + c + tw + j) v fits (omega arith) (inr b)
          ∙ sym (near (bx + c + tw) v a (omega arith) (inr b))
          ∙ sym (outside (bx + c + tw) v (λ p. let o = p.top in omega arith))
      go (inl a) (inr b) =
          let fits : bx + c + tw + j < nx + s = omega arith in
          let low : v < ny + t = omega arith in
          inside (bx + c + tw + j) v (omega arith) fits b low
          ∙ right_plain bx by w h th r c tw j v next_x (omega arith) (omega arith) hj hv
          ∙ sym (inside (bx + c + tw) v (omega arith) a b low)
      go (inr a) _ =
          outside (bx + c + tw + j) v (λ p. let o = p.right in omega arith)
          ∙ beside (bx + c + tw + j) (bx + c + tw) v (omega arith) (omega arith) (omega arith) (omega arith)
          ∙ sym (outside (bx + c + tw) v (λ p. let o = p.right in omega arith))

  -- the run below the step, one column left of it
  run_down : (j u : ℕ) → j < th → u + 1 ≡ bx + c → before u (by + r + th + j) ≡ before u (by + r + th)
  run_down j u hj hu = go (cases_lt (by + r + th) (ny + t)) (cases_lt u nx)
    where
      go : (by + r + th < ny + t) ⊎ (ny + t ≤ by + r + th) → (u < nx) ⊎ (nx ≤ u) → before u (by + r + th + j) ≡ before u (by + r + th)
      go (inl a) (inl b) =
          let fits : by + r + th + j < ny + t = omega arith in
          outside u (by + r + th + j) (λ p. let o = p.left in omega arith)
          ∙ near u (by + r + th + j) (omega arith) fits (inl b)
          ∙ sym (near u (by + r + th) (omega arith) a (inl b))
          ∙ sym (outside u (by + r + th) (λ p. let o = p.left in omega arith))
      go (inl a) (inr b) =
          let fits : by + r + th + j < ny + t = omega arith in
          let low : u < nx + s = omega arith in
          inside u (by + r + th + j) b low (omega arith) fits
          ∙ down_plain bx by w h th r c j u hu
          ∙ sym (inside u (by + r + th) b low (omega arith) a)
      go (inr a) _ =
          outside u (by + r + th + j) (λ p. let o = p.bottom in omega arith)
          ∙ below u (by + r + th + j) (by + r + th) (omega arith) (omega arith) (omega arith) (omega arith)
          ∙ sym (outside u (by + r + th) (λ p. let o = p.bottom in omega arith))

-- the step is one of the equal rectangles that tile the units of its block
pub record IsTileAt (sx sy : ℕ) (s : Step) : Type 0 where
  pub whole_x : 2 ^ sx ≤ s.block.columns
  pub whole_y : 2 ^ sy ≤ s.block.rows
  pub wide : 0 < s.columns
  pub high : 0 < s.rows
  pub across : (area sx sy s.block).columns % s.columns ≡ 0
  pub along : (area sx sy s.block).rows % s.rows ≡ 0
  pub right_at : s.right % s.columns ≡ 0
  pub right_within : s.right < (area sx sy s.block).columns
  pub down_at : s.down % s.rows ≡ 0
  pub down_within : s.down < (area sx sy s.block).rows

-- The step lies on the grid of its transforms, and its block on the grid of its node.
pub record IsStep (sx sy : ℕ) (s : Step) : Type 0 where
  pub block : IsUnitBlock sx sy s.block
  pub tile : IsTileAt sx sy s
  pub next_x : (s.right + s.columns ≡ (area sx sy s.block).columns) ⊎ (s.right + 2 * s.columns ≤ (area sx sy s.block).columns)
  pub next_y : (s.down + s.rows ≡ (area sx sy s.block).rows) ⊎ (s.down + 2 * s.rows ≤ (area sx sy s.block).rows)

-- from units to cells, along one direction
cells_below : (s n m t : ℕ) → s ≤ 1 → n % 2 ^ s ≡ 0 → m % 2 ^ s ≡ 0 → t < n / 2 ^ s + m / 2 ^ s → t * 2 ^ s < n + m
cells_below zero n m t h e f lt = omega arith
cells_below (suc zero) n m t h e f lt = omega arith
cells_below (suc (suc s)) n m t h e f lt = absurd (omega arith)

cells_before : (s n t : ℕ) → s ≤ 1 → t < n / 2 ^ s → t * 2 ^ s < n
cells_before zero n t h lt = omega arith
cells_before (suc zero) n t h lt = omega arith
cells_before (suc (suc s)) n t h lt = absurd (omega arith)

cells_after : (s n m t : ℕ) → s ≤ 1 → n % 2 ^ s ≡ 0 → m % 2 ^ s ≡ 0 → n / 2 ^ s + m / 2 ^ s ≤ t → t < n / 2 ^ s + 2 * (m / 2 ^ s)
    → (n + m ≤ t * 2 ^ s) × (t * 2 ^ s < n + m + m)
cells_after zero n m t h e f a b = omega arith
cells_after (suc zero) n m t h e f a b = omega arith
cells_after (suc (suc s)) n m t h e f a b = absurd (omega arith)

module _ (sx sy : ℕ) (hx : sx ≤ 1) (hy : sy ≤ 1) (s : Step) (is : IsStep sx sy s) where
  k : ℕ
  k = is.block.grid.log

  nx : ℕ
  nx = node_x s.block

  ny : ℕ
  ny = node_y s.block

  plain : (x y : ℕ) → told_before sx sy s x y
      ≡ (if is_in x y (node_x s.block / 2 ^ sx) (node_y s.block / 2 ^ sy) (2 ^ is.block.grid.log / 2 ^ sx) (2 ^ is.block.grid.log / 2 ^ sy)
      then is_before_in_block (area sx sy s.block).x (area sx sy s.block).y (area sx sy s.block).columns (area sx sy s.block).rows s.rows s.down s.right x y
      else early sx sy s.block x y)
  unfolding next_before
  plain x y =
      ap (λ q. if q then is_before_in_block (area sx sy s.block).x (area sx sy s.block).y (area sx sy s.block).columns (area sx sy s.block).rows s.rows s.down
      s.right x y
      else early sx sy s.block x y) (node_in_units sx sy hx hy s.block is.block x y)

  near : (x y : ℕ) → x < node_x s.block / 2 ^ sx + 2 ^ is.block.grid.log / 2 ^ sx → y < node_y s.block / 2 ^ sy + 2 ^ is.block.grid.log / 2 ^ sy
      → (x < node_x s.block / 2 ^ sx) ⊎ (y < node_y s.block / 2 ^ sy) → early sx sy s.block x y ≡ true
  near x y x1 y1 o =
      let g = is.block.grid in
      near_earlier g.log (x * 2 ^ sx) (y * 2 ^ sy) (node_x s.block) (node_y s.block) g.small g.x_at g.y_at
      (cells_below sx (node_x s.block) (2 ^ g.log) x hx is.block.across.node_at is.block.across.node_side x1)
      (cells_below sy (node_y s.block) (2 ^ g.log) y hy is.block.along.node_at is.block.along.node_side y1)
      (elim o [ inl a ↦ inl (cells_before sx (node_x s.block) x hx a) | inr a ↦ inr (cells_before sy (node_y s.block) y hy a) ])

  beside : (x x' y : ℕ) → node_x s.block / 2 ^ sx + 2 ^ is.block.grid.log / 2 ^ sx ≤ x → x < node_x s.block / 2 ^ sx + 2 * (2 ^ is.block.grid.log / 2 ^ sx)
      → node_x s.block / 2 ^ sx + 2 ^ is.block.grid.log / 2 ^ sx ≤ x' → x' < node_x s.block / 2 ^ sx + 2 * (2 ^ is.block.grid.log / 2 ^ sx)
      → early sx sy s.block x y ≡ early sx sy s.block x' y
  beside x x' y a b a' b' =
      let g = is.block.grid in
      let n = node_x s.block in
      let p = cells_after sx n (2 ^ g.log) x hx is.block.across.node_at is.block.across.node_side a b in
      let p' = cells_after sx n (2 ^ g.log) x' hx is.block.across.node_at is.block.across.node_side a' b' in
      same_earlier g.log (x * 2 ^ sx) (y * 2 ^ sy) (x' * 2 ^ sx) (y * 2 ^ sy) n (node_y s.block) g.small
      (same_span (2 ^ g.log) (n + 2 ^ g.log) (x * 2 ^ sx) (x' * 2 ^ sx) (add-mod_right n (2 ^ g.log) ∙ g.x_at) p.0 p.1 p'.0 p'.1) refl g.x_at g.y_at

  below : (x y y' : ℕ) → node_y s.block / 2 ^ sy + 2 ^ is.block.grid.log / 2 ^ sy ≤ y → y < node_y s.block / 2 ^ sy + 2 * (2 ^ is.block.grid.log / 2 ^ sy)
      → node_y s.block / 2 ^ sy + 2 ^ is.block.grid.log / 2 ^ sy ≤ y' → y' < node_y s.block / 2 ^ sy + 2 * (2 ^ is.block.grid.log / 2 ^ sy)
      → early sx sy s.block x y ≡ early sx sy s.block x y'
  below x y y' a b a' b' =
      let g = is.block.grid in
      let n = node_y s.block in
      let p = cells_after sy n (2 ^ g.log) y hy is.block.along.node_at is.block.along.node_side a b in
      let p' = cells_after sy n (2 ^ g.log) y' hy is.block.along.node_at is.block.along.node_side a' b' in
      same_earlier g.log (x * 2 ^ sx) (y * 2 ^ sy) (x * 2 ^ sx) (y' * 2 ^ sy) (node_x s.block) n g.small refl
      (same_span (2 ^ g.log) (n + 2 ^ g.log) (y * 2 ^ sy) (y' * 2 ^ sy) (add-mod_right n (2 ^ g.log) ∙ g.y_at) p.0 p.1 p'.0 p'.1) g.x_at g.y_at

  -- the hypotheses of the section above, at the step
  abbrev at_step : (x y : ℕ) → Bool
  at_step x y =
      if is_in x y (node_x s.block / 2 ^ sx) (node_y s.block / 2 ^ sy) (2 ^ is.block.grid.log / 2 ^ sx) (2 ^ is.block.grid.log / 2 ^ sy)
      then is_before_in_block (area sx sy s.block).x (area sx sy s.block).y (area sx sy s.block).columns (area sx sy s.block).rows s.rows s.down s.right x y
      else early sx sy s.block x y

  left_units : node_x s.block / 2 ^ sx ≤ (area sx sy s.block).x
  left_units = place_units sx (node_x s.block) (2 ^ is.block.grid.log) s.block.x s.block.columns hx is.block.across is.block.grid.left

  top_units : node_y s.block / 2 ^ sy ≤ (area sx sy s.block).y
  top_units = place_units sy (node_y s.block) (2 ^ is.block.grid.log) s.block.y s.block.rows hy is.block.along is.block.grid.top

  pub near_step : (x y : ℕ) → x < (area sx sy s.block).x + s.right + s.columns → y < (area sx sy s.block).y + s.down + s.rows
      → (x < (area sx sy s.block).x + s.right) ⊎ (y < (area sx sy s.block).y + s.down) → told_before sx sy s x y ≡ true
  near_step x y x1 y1 o =
      let a = area sx sy s.block in
      let m = 2 ^ is.block.grid.log in
      plain x y
      ∙ near_before (early sx sy s.block) (node_x s.block / 2 ^ sx) (node_y s.block / 2 ^ sy) (m / 2 ^ sx)
      (m / 2 ^ sy) a.x a.y a.columns a.rows s.columns s.rows s.down s.right
      near beside below left_units top_units (room_units sx (node_x s.block) m s.block.x s.block.columns hx is.block.across is.block.grid.room_x)
      (room_units sy (node_y s.block) m s.block.y s.block.rows hy is.block.along is.block.grid.room_y) is.next_x is.next_y x y x1 y1 o

  pub right_step : (j v : ℕ) → j < s.columns → v + 1 ≡ (area sx sy s.block).y + s.down
      → told_before sx sy s ((area sx sy s.block).x + s.right + s.columns + j) v ≡ told_before sx sy s ((area sx sy s.block).x + s.right + s.columns) v
  right_step j v hj hv =
      let a = area sx sy s.block in
      let m = 2 ^ is.block.grid.log in
      plain (a.x + s.right + s.columns + j) v
      ∙ run_right (early sx sy s.block) (node_x s.block / 2 ^ sx) (node_y s.block / 2 ^ sy) (m / 2 ^ sx)
      (m / 2 ^ sy) a.x a.y a.columns a.rows s.columns s.rows s.down s.right
      near beside below left_units top_units (room_units sx (node_x s.block) m s.block.x s.block.columns hx is.block.across is.block.grid.room_x)
      (room_units sy (node_y s.block) m s.block.y s.block.rows hy is.block.along is.block.grid.room_y) is.next_x is.next_y j v hj hv
      ∙ sym (plain (a.x + s.right + s.columns) v)

  pub down_step : (j u : ℕ) → j < s.rows → u + 1 ≡ (area sx sy s.block).x + s.right
      → told_before sx sy s u ((area sx sy s.block).y + s.down + s.rows + j) ≡ told_before sx sy s u ((area sx sy s.block).y + s.down + s.rows)
  down_step j u hj hu =
      let a = area sx sy s.block in
      let m = 2 ^ is.block.grid.log in
      plain u (a.y + s.down + s.rows + j)
      ∙ run_down (early sx sy s.block) (node_x s.block / 2 ^ sx) (node_y s.block / 2 ^ sy) (m / 2 ^ sx)
      (m / 2 ^ sy) a.x a.y a.columns a.rows s.columns s.rows s.down s.right
      near beside below left_units top_units (room_units sx (node_x s.block) m s.block.x s.block.columns hx is.block.across is.block.grid.room_x)
      (room_units sy (node_y s.block) m s.block.y s.block.rows hy is.block.along is.block.grid.room_y) is.next_x is.next_y j u hj hu
      ∙ sym (plain u (a.y + s.down + s.rows))
