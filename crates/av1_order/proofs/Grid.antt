-- A widened block lies on the grid of its node, in cells and in units.
use Rattle.std.proofs.Common.{◌≡◌, ℕ, zero, suc, ◌+◌, ◌-◌, ◌*◌, ◌/◌, ◌%◌, ◌^◌, ◌≤◌, ◌⊎◌, max, true, leb, ltb, inl, inr, refl, sym, ◌∙◌, arith}
use Rattle.std.proofs.lemmas.Bool.{cases_eq}
use Rattle.av1_avail.specs.Order.{is_in}
use Rattle.av1_plan.specs.Tree.{Block}
use Rattle.av1_order.specs.Steps.{widened, area}
use Rattle.av1_order.proofs.Nodes.{node_side, node_x, node_y}
use Rattle.av1_order.proofs.Rectangles.{Places, places, placed}
use Rattle.av1_order.proofs.Leaves.{IsEven, IsOnGrid}
use Rattle.av1_order.proofs.Units.{in_node, in_area}
use Rattle.av1_order.proofs.Node.{on_grid}
use Rattle.av1_order.proofs.Halved.{IsWhole, ltb_same, leb_same, even_power, large_node}

Room : (at side n m : ℕ) → Type 0
Room at side n m = (at + side ≡ n + m) ⊎ (at + 2 * side ≤ n + m)

even_widened : (s at side : ℕ) → s ≤ 1 → IsWhole s at side → IsEven (at - at % 2 ^ s) (max side (2 ^ s))
unfolding IsWhole
even_widened zero at side h (odd, inl one) = inl (omega arith)
even_widened zero at side h (odd, inr even) = let e = even in inr (omega arith)
even_widened (suc zero) at side h (odd, inl one) = let o : at % 2 ≡ 1 = odd refl one in inr (omega arith)
even_widened (suc zero) at side h (odd, inr even) = let e = even in inr (omega arith)
even_widened (suc (suc s)) at side h w = absurd (omega arith)

room_widened : (s at side n m : ℕ) → s ≤ 1 → n % 2 ≡ 0 → m % 2 ≡ 0 → IsWhole s at side → Room at side n m → Room (at - at % 2 ^ s) (max side (2 ^ s)) n m
unfolding IsWhole Room
room_widened zero at side n m h en em (odd, inl one) (inl r) = inl (omega arith)
room_widened zero at side n m h en em (odd, inl one) (inr r) = inr (omega arith)
room_widened zero at side n m h en em (odd, inr even) (inl r) = let e = even in inl (omega arith)
room_widened zero at side n m h en em (odd, inr even) (inr r) = let e = even in inr (omega arith)
room_widened (suc zero) at side n m h en em (odd, inl one) (inl r) = let o : at % 2 ≡ 1 = odd refl one in inl (omega arith)
room_widened (suc zero) at side n m h en em (odd, inl one) (inr r) = let o : at % 2 ≡ 1 = odd refl one in inr (omega arith)
room_widened (suc zero) at side n m h en em (odd, inr even) (inl r) = let e = even in inl (omega arith)
room_widened (suc zero) at side n m h en em (odd, inr even) (inr r) = let e = even in inr (omega arith)
room_widened (suc (suc s)) at side n m h en em w r = absurd (omega arith)

place_widened : (s at side n : ℕ) → s ≤ 1 → n % 2 ≡ 0 → IsWhole s at side → n ≤ at → n ≤ at - at % 2 ^ s
unfolding IsWhole
place_widened zero at side n h en w lo = omega arith
place_widened (suc zero) at side n h en w lo = omega arith
place_widened (suc (suc s)) at side n h en w lo = absurd (omega arith)

at_widened : (s at side : ℕ) → s ≤ 1 → IsWhole s at side → at % side ≡ 0 → (at - at % 2 ^ s) % max side (2 ^ s) ≡ 0
unfolding IsWhole
at_widened zero at side h (odd, inl one) e = let m : max side 1 ≡ 1 = omega arith in rw m (omega arith)
at_widened zero at side h (odd, inr even) e =
    let m : max side 1 ≡ side = omega (arith, even.2) in let p : at - at % 1 ≡ at = omega arith in rw (m, p) e
at_widened (suc zero) at side h (odd, inl one) e = let m : max side 2 ≡ 2 = omega arith in rw m (omega arith)
at_widened (suc zero) at side h (odd, inr even) e =
    let m : max side 2 ≡ side = omega (arith, even.2) in let p : at - at % 2 ≡ at = omega (arith, even.1) in rw (m, p) e
at_widened (suc (suc s)) at side h w e = absurd (omega arith)

pub large_grid : (sx sy : ℕ) → sx ≤ 1 → sy ≤ 1 → (b : Block) (g : IsOnGrid b) → 1 ≤ g.log → IsWhole sx b.x b.columns → IsWhole sy b.y b.rows →
    IsOnGrid (widened sx sy b)
unfolding Room
large_grid sx sy hx hy b g large wx wy =
    let n = large_node sx sy hx hy b g large wx wy in
    let ex = even_power g.log (node_x b) large g.small g.x_at in
    let ey = even_power g.log (node_y b) large g.small g.y_at in
    record {
      log = g.log;
      small = g.small;
      side = n.0 ∙ g.side;
      x_at = rw n.1 g.x_at;
      y_at = rw n.2 g.y_at;
      left = rw n.1 (place_widened sx b.x b.columns (node_x b) hx ex.0 wx g.left);
      top = rw n.2 (place_widened sy b.y b.rows (node_y b) hy ey.0 wy g.top);
      room_x = rw n.1 (room_widened sx b.x b.columns (node_x b) (2 ^ g.log) hx ex.0 ex.1 wx g.room_x);
      room_y = rw n.2 (room_widened sy b.y b.rows (node_y b) (2 ^ g.log) hy ey.0 ey.1 wy g.room_y);
      even_x = even_widened sx b.x b.columns hx wx;
      even_y = even_widened sy b.y b.rows hy wy;
      across = at_widened sx b.x b.columns hx wx g.across;
      along = at_widened sy b.y b.rows hy wy g.along;
    }

one_at : (at side : ℕ) → side ≡ 1 → at % side ≡ 0
one_at at side e = rw e (omega arith)

half_room : (y rows : ℕ) → rows ≡ 1 → (y - y % 1 + max rows 1 ≡ y - y % 2 + 2) ⊎ (y - y % 1 + 2 * max rows 1 ≤ y - y % 2 + 2)
half_room y rows e = go (cases_eq (y % 2) 0)
  where
    go : (y % 2 ≡ 0) ⊎ (y % 2 ≡ 0 → ⊥) → (y - y % 1 + max rows 1 ≡ y - y % 2 + 2) ⊎ (y - y % 1 + 2 * max rows 1 ≤ y - y % 2 + 2)
    go (inl a) = inr (omega arith)
    go (inr a) = inl (omega arith)

pub small_grid : (sx sy : ℕ) → sx ≤ 1 → sy ≤ sx → (b : Block) → b.columns ≡ 1 → b.rows ≡ 1 → IsWhole sx b.x b.columns → IsWhole sy b.y b.rows →
    IsOnGrid (widened sx sy b)
small_grid zero zero hx hy b ec er wx wy =
    (on_grid 0 (widened 0 0 b) b.x b.y
    (omega arith) (omega arith) (omega arith) (omega arith) (omega arith) (omega arith) (omega arith) (omega arith)
    (inl (omega arith)) (inl (omega arith)) (even_widened 0 b.x b.columns (omega arith) wx) (even_widened 0 b.y b.rows (omega arith) wy)
    (at_widened 0 b.x b.columns (omega arith) wx (one_at b.x b.columns ec)) (at_widened 0 b.y b.rows (omega arith) wy (one_at b.y b.rows er))).0
small_grid (suc zero) zero hx hy b ec er wx wy =
    (on_grid 1 (widened 1 0 b) (b.x - b.x % 2) (b.y - b.y % 2)
    (omega arith) (omega arith) (omega arith) (omega arith) (omega arith) (omega arith) (omega arith) (omega arith)
    (inl (omega arith)) (half_room b.y b.rows er) (even_widened 1 b.x b.columns (omega arith) wx) (even_widened 0 b.y b.rows (omega arith) wy)
    (at_widened 1 b.x b.columns (omega arith) wx (one_at b.x b.columns ec)) (at_widened 0 b.y b.rows (omega arith) wy (one_at b.y b.rows er))).0
small_grid (suc zero) (suc zero) hx hy b ec er wx wy =
    (on_grid 1 (widened 1 1 b) (b.x - b.x % 2) (b.y - b.y % 2)
    (omega arith) (omega arith) (omega arith) (omega arith) (omega arith) (omega arith) (omega arith) (omega arith)
    (inl (omega arith)) (inl (omega arith)) (even_widened 1 b.x b.columns (omega arith) wx) (even_widened 1 b.y b.rows (omega arith) wy)
    (at_widened 1 b.x b.columns (omega arith) wx (one_at b.x b.columns ec)) (at_widened 1 b.y b.rows (omega arith) wy (one_at b.y b.rows er))).0
small_grid zero (suc sy) hx hy b ec er wx wy = absurd (omega arith)
small_grid (suc zero) (suc (suc sy)) hx hy b ec er wx wy = absurd (omega arith)
small_grid (suc (suc sx)) sy hx hy b ec er wx wy = absurd (omega arith)

-- the same in units
pub record InUnits (s n m at side : ℕ) : Type 0 where
  pub node_at : n % 2 ^ s ≡ 0
  pub node_side : m % 2 ^ s ≡ 0
  pub block_at : at % 2 ^ s ≡ 0
  pub block_side : side % 2 ^ s ≡ 0

large_log : (k : ℕ) → k ≤ 4 → 2 ≤ 2 ^ k → 1 ≤ k
large_log zero h e = absurd (omega arith)
large_log (suc k) h e = omega arith

in_units : (s k n at side : ℕ) → s ≤ 1 → k ≤ 4 → n % 2 ^ k ≡ 0 → side ≤ 2 ^ k → 2 ^ s ≤ side → IsEven at side → InUnits s n (2 ^ k) at side
in_units zero k n at side h hk e fit two even = record { node_at = omega arith; node_side = omega arith; block_at = omega arith; block_side = omega arith }
in_units (suc zero) k n at side h hk e fit two (inl one) = absurd (omega arith)
in_units (suc zero) k n at side h hk e fit two (inr even) =
    let p = even_power k n (large_log k hk (omega arith)) hk e in record { node_at = p.0; node_side = p.1; block_at = even.1; block_side = even.0 }
in_units (suc (suc s)) k n at side h hk e fit two even = absurd (omega arith)

span_from_units : (s n t : ℕ) → s ≤ 1 → n % 2 ^ s ≡ 0 → leb n (t * 2 ^ s) ≡ leb (n / 2 ^ s) t
span_from_units zero n t h e = leb_same n (t * 1) (n / 1) t (λ a. omega arith) (λ a. omega arith)
span_from_units (suc zero) n t h e = leb_same n (t * 2) (n / 2) t (λ a. omega arith) (λ a. omega arith)
span_from_units (suc (suc s)) n t h e = absurd (omega arith)

span_to_units : (s n m t : ℕ) → s ≤ 1 → n % 2 ^ s ≡ 0 → m % 2 ^ s ≡ 0 → ltb (t * 2 ^ s) (n + m) ≡ ltb t (n / 2 ^ s + m / 2 ^ s)
span_to_units zero n m t h e f = ltb_same (t * 1) (n + m) t (n / 1 + m / 1) (λ a. omega arith) (λ a. omega arith)
span_to_units (suc zero) n m t h e f = ltb_same (t * 2) (n + m) t (n / 2 + m / 2) (λ a. omega arith) (λ a. omega arith)
span_to_units (suc (suc s)) n m t h e f = absurd (omega arith)

pub place_units : (s n m at side : ℕ) → s ≤ 1 → InUnits s n m at side → n ≤ at → n / 2 ^ s ≤ at / 2 ^ s
place_units zero n m at side h u lo = omega arith
place_units (suc zero) n m at side h u lo = omega arith
place_units (suc (suc s)) n m at side h u lo = absurd (omega arith)

pub room_units : (s n m at side : ℕ) → s ≤ 1 → InUnits s n m at side → (at + side ≡ n + m) ⊎ (at + 2 * side ≤ n + m)
    → (at / 2 ^ s + side / 2 ^ s ≡ n / 2 ^ s + m / 2 ^ s) ⊎ (at / 2 ^ s + 2 * (side / 2 ^ s) ≤ n / 2 ^ s + m / 2 ^ s)
room_units zero n m at side h u (inl r) = inl (omega arith)
room_units zero n m at side h u (inr r) = inr (omega arith)
room_units (suc zero) n m at side h u (inl r) = let a = u.node_at in let b = u.node_side in let c = u.block_at in let d = u.block_side in inl (omega arith)
room_units (suc zero) n m at side h u (inr r) = let a = u.node_at in let b = u.node_side in let c = u.block_at in let d = u.block_side in inr (omega arith)
room_units (suc (suc s)) n m at side h u r = absurd (omega arith)

-- A block of whole units on its grid.
pub record IsUnitBlock (sx sy : ℕ) (b : Block) : Type 0 where
  pub grid : IsOnGrid b
  pub whole_x : 2 ^ sx ≤ b.columns
  pub whole_y : 2 ^ sy ≤ b.rows
  pub across : InUnits sx (node_x b) (2 ^ grid.log) b.x b.columns
  pub along : InUnits sy (node_y b) (2 ^ grid.log) b.y b.rows

pub unit_block : (sx sy : ℕ) → sx ≤ 1 → sy ≤ 1 → (b : Block) → IsOnGrid b → 2 ^ sx ≤ b.columns → 2 ^ sy ≤ b.rows → IsUnitBlock sx sy b
unit_block sx sy hx hy b g wide high =
    let side = g.side in
    record {
      grid = g;
      whole_x = wide;
      whole_y = high;
      across = in_units sx g.log (node_x b) b.x b.columns hx g.small g.x_at (omega arith) wide g.even_x;
      along = in_units sy g.log (node_y b) b.y b.rows hy g.small g.y_at (omega arith) high g.even_y;
    }

module _ (sx sy : ℕ) (hx : sx ≤ 1) (hy : sy ≤ 1) (b : Block) (u : IsUnitBlock sx sy b) where
  in_units_plain : (x y n m s : ℕ) → n % 2 ^ sx ≡ 0 → s % 2 ^ sx ≡ 0 → m % 2 ^ sy ≡ 0 → s % 2 ^ sy ≡ 0
      → is_in (x * 2 ^ sx) (y * 2 ^ sy) n m s s ≡ is_in x y (n / 2 ^ sx) (m / 2 ^ sy) (s / 2 ^ sx) (s / 2 ^ sy)
  unfolding is_in
  in_units_plain x y n m s a c d e =
      rw (span_from_units sx n x hx a, span_to_units sx n s x hx a c, span_from_units sy m y hy d, span_to_units sy m s y hy d e) refl

  side_units : (x y n m s s' : ℕ) → s' ≡ s → is_in x y n m s s ≡ is_in x y n m s' s'
  side_units x y n m s s' e = rw e refl

  pub node_in_units : (x y : ℕ)
      → in_node sx sy b x y ≡ is_in x y (node_x b / 2 ^ sx) (node_y b / 2 ^ sy) (2 ^ u.grid.log / 2 ^ sx) (2 ^ u.grid.log / 2 ^ sy)
  node_in_units x y =
      side_units (x * 2 ^ sx) (y * 2 ^ sy) (node_x b) (node_y b) (node_side b) (2 ^ u.grid.log) (sym u.grid.side)
      ∙ in_units_plain x y (node_x b) (node_y b) (2 ^ u.grid.log) u.across.node_at u.across.node_side u.along.node_at u.along.node_side

  pub held_in_node : (x y : ℕ) → in_area sx sy b x y ≡ true → in_node sx sy b x y ≡ true
  held_in_node x y e =
      let a = area sx sy b in
      let k = u.grid.log in
      let p = places x y a.x a.y a.columns a.rows e in
      let rx = room_units sx (node_x b) (2 ^ k) b.x b.columns hx u.across u.grid.room_x in
      let ry = room_units sy (node_y b) (2 ^ k) b.y b.rows hy u.along u.grid.room_y in
      let px = place_units sx (node_x b) (2 ^ k) b.x b.columns hx u.across u.grid.left in
      let py = place_units sy (node_y b) (2 ^ k) b.y b.rows hy u.along u.grid.top in
      node_in_units x y
      ∙ placed x y (node_x b / 2 ^ sx) (node_y b / 2 ^ sy) (2 ^ k / 2 ^ sx) (2 ^ k / 2 ^ sy)
      (plain (node_x b / 2 ^ sx) (node_y b / 2 ^ sy) (2 ^ k / 2 ^ sx) (2 ^ k / 2 ^ sy) a.x a.y a.columns a.rows px py rx ry p)
    where
      plain : (n m s t ax ay w h : ℕ) → n ≤ ax → m ≤ ay → (ax + w ≡ n + s) ⊎ (ax + 2 * w ≤ n + s) → (ay + h ≡ m + t) ⊎ (ay + 2 * h ≤ m + t)
          → Places x y ax ay w h → Places x y n m s t
      plain n m s t ax ay w h px py rx ry p =
          let l = p.left in let r = p.right in let o = p.top in let d = p.bottom in
          record { left = omega arith; right = omega arith; top = omega arith; bottom = omega arith }
