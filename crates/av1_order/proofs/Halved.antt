-- A leaf in a plane: a unit belongs to the leaf that holds the unit's last cell.
use Rattle.std.proofs.Common.{◌≡◌, ℕ, zero, suc, ◌+◌, ◌-◌, ◌*◌, ◌/◌, ◌%◌, ◌^◌, ◌<◌, ◌≤◌, ◌⊎◌, max, Bool, true, false, not, ◌&&◌, ◌||◌, leb, ltb, inl, inr, refl}
use Rattle.std.proofs.Common.{sym, ◌∙◌, ap, arith}
use Rattle.std.specs.Prelude.{if◌then◌else◌, ◌==◌}
use Rattle.std.proofs.lemmas.Bool.{false_from_ne_true, and_parts, and_cases, cases_lt, lt-ltb, le-ltb, true≢false}
use Rattle.std.proofs.lemmas.Bool.Decides.{nat_tests}
use Rattle.av1_avail.specs.Order.{is_in, is_earlier}
use Rattle.av1_plan.specs.Tree.{Block}
use Rattle.av1_order.specs.Steps.{carries, widened, area}
use Rattle.av1_order.proofs.Nodes.{node_side, node_x, node_y}
use Rattle.av1_order.proofs.Choices.{or_nothing}
use Rattle.av1_order.proofs.Rectangles.{Places, places, placed}
use Rattle.av1_order.proofs.Leaves.{starts, IsEven, IsOnGrid}
use Rattle.av1_order.proofs.Units.{opens}
use Rattle.av1_order.proofs.Spans.{span_start}
use Rattle.av1_order.proofs.Earlier.{always_earlier, never_earlier, same_earlier_2, earlier_apart}

-- the last cell of a unit
abbrev pub last : (s t : ℕ) → ℕ
last s t = t * 2 ^ s + (2 ^ s - 1)

pub ltb_same : (a b c d : ℕ) → (a < b → c < d) → (c < d → a < b) → ltb a b ≡ ltb c d
ltb_same a b c d f g = grind (arith, nat_tests)

pub leb_same : (a b c d : ℕ) → (a ≤ b → c ≤ d) → (c ≤ d → a ≤ b) → leb a b ≡ leb c d
leb_same a b c d f g = grind (arith, nat_tests)

-- Along one direction: a side of one cell at an odd place, or an even side at an even place, or no halving.
unfoldable pub IsWhole : (s at side : ℕ) → Type 0
IsWhole s at side = (s ≡ 1 → side ≡ 1 → at % 2 ≡ 1) × IsEven at side

pub before_first : (s at side t : ℕ) → s ≤ 1 → IsWhole s at side → ltb (last s t) at ≡ ltb t ((at - at % 2 ^ s) / 2 ^ s)
unfolding IsWhole
before_first zero at side t h w = ltb_same (last 0 t) at t ((at - at % 1) / 1) (λ a. omega arith) (λ a. omega arith)
before_first (suc zero) at side t h (odd, inl one) = let o : at % 2 ≡ 1 = odd refl one
    in ltb_same (last 1 t) at t ((at - at % 2) / 2) (λ a. omega arith) (λ a. omega arith)
before_first (suc zero) at side t h (odd, inr even) = let e = even in ltb_same (last 1 t) at t ((at - at % 2) / 2) (λ a. omega arith) (λ a. omega arith)
before_first (suc (suc s)) at side t h w = absurd (omega arith)

from_first : (s at side t : ℕ) → s ≤ 1 → IsWhole s at side → leb at (last s t) ≡ leb ((at - at % 2 ^ s) / 2 ^ s) t
unfolding IsWhole
from_first zero at side t h w = leb_same at (last 0 t) ((at - at % 1) / 1) t (λ a. omega arith) (λ a. omega arith)
from_first (suc zero) at side t h (odd, inl one) = let o : at % 2 ≡ 1 = odd refl one
    in leb_same at (last 1 t) ((at - at % 2) / 2) t (λ a. omega arith) (λ a. omega arith)
from_first (suc zero) at side t h (odd, inr even) = let e = even in leb_same at (last 1 t) ((at - at % 2) / 2) t (λ a. omega arith) (λ a. omega arith)
from_first (suc (suc s)) at side t h w = absurd (omega arith)

to_last : (s at side t : ℕ) → s ≤ 1 → IsWhole s at side → ltb (last s t) (at + side) ≡ ltb t ((at - at % 2 ^ s) / 2 ^ s + max side (2 ^ s) / 2 ^ s)
unfolding IsWhole
to_last zero at side t h w = ltb_same (last 0 t) (at + side) t ((at - at % 1) / 1 + max side 1 / 1) (λ a. omega (arith, w.1)) (λ a. omega (arith, w.1))
to_last (suc zero) at side t h (odd, inl one) =
    let o : at % 2 ≡ 1 = odd refl one in ltb_same (last 1 t) (at + side) t ((at - at % 2) / 2 + max side 2 / 2) (λ a. omega arith) (λ a. omega arith)
to_last (suc zero) at side t h (odd, inr even) =
    let e = even in ltb_same (last 1 t) (at + side) t ((at - at % 2) / 2 + max side 2 / 2) (λ a. omega arith) (λ a. omega arith)
to_last (suc (suc s)) at side t h w = absurd (omega arith)

-- an even span holds the first cell of a unit where it holds the last
span_from : (s n t : ℕ) → s ≤ 1 → n % 2 ≡ 0 → leb n (last s t) ≡ leb n (t * 2 ^ s)
span_from zero n t h e = leb_same n (last 0 t) n (t * 1) (λ a. omega arith) (λ a. omega arith)
span_from (suc zero) n t h e = leb_same n (last 1 t) n (t * 2) (λ a. omega arith) (λ a. omega arith)
span_from (suc (suc s)) n t h e = absurd (omega arith)

span_to : (s n m t : ℕ) → s ≤ 1 → n % 2 ≡ 0 → m % 2 ≡ 0 → ltb (last s t) (n + m) ≡ ltb (t * 2 ^ s) (n + m)
span_to zero n m t h e f = ltb_same (last 0 t) (n + m) (t * 1) (n + m) (λ a. omega arith) (λ a. omega arith)
span_to (suc zero) n m t h e f = ltb_same (last 1 t) (n + m) (t * 2) (n + m) (λ a. omega arith) (λ a. omega arith)
span_to (suc (suc s)) n m t h e f = absurd (omega arith)

same_pair : (s t : ℕ) → s ≤ 1 → last s t / 2 ≡ t * 2 ^ s / 2
same_pair zero t h = omega arith
same_pair (suc zero) t h = omega arith
same_pair (suc (suc s)) t h = absurd (omega arith)

pub even_power : (k n : ℕ) → 1 ≤ k → k ≤ 4 → n % 2 ^ k ≡ 0 → (n % 2 ≡ 0) × (2 ^ k % 2 ≡ 0) × (2 ≤ 2 ^ k)
even_power zero n lo hi e = absurd (omega arith)
even_power (suc zero) n lo hi e = omega arith
even_power (suc (suc zero)) n lo hi e = omega arith
even_power (suc (suc (suc zero))) n lo hi e = omega arith
even_power (suc (suc (suc (suc zero)))) n lo hi e = omega arith
even_power (suc (suc (suc (suc (suc k))))) n lo hi e = absurd (omega arith)

-- the place of a widened side in an even span
widened_place : (s at side n m : ℕ) → s ≤ 1 → n % 2 ≡ 0 → m % 2 ≡ 0 → IsWhole s at side → n ≤ at
    → (at + side ≡ n + m) ⊎ (at + 2 * side ≤ n + m)
    → (n ≤ at - at % 2 ^ s) × (at - at % 2 ^ s + max side (2 ^ s) ≤ n + m) × (1 ≤ max side (2 ^ s))
unfolding IsWhole
widened_place zero at side n m h en em (odd, inl one) lo room = omega arith
widened_place zero at side n m h en em (odd, inr even) lo room = let e = even in omega arith
widened_place (suc zero) at side n m h en em (odd, inl one) lo room = let o : at % 2 ≡ 1 = odd refl one in omega arith
widened_place (suc zero) at side n m h en em (odd, inr even) lo room = let e = even in omega arith
widened_place (suc (suc s)) at side n m h en em w lo room = absurd (omega arith)

carried_axis : (s side at : ℕ) → not (s == 1 && side == 1 && at % 2 == 0) ≡ true → s ≡ 1 → side ≡ 1 → at % 2 ≡ 1
carried_axis s side at e es ew = grind (arith, nat_tests)

uncarried : (r side : ℕ) → not (1 == 1 && side == 1 && r == 0) ≡ false → (side ≡ 1) × (r ≡ 0)
uncarried r side e = grind (arith, nat_tests)

axis_carried : (s side at t : ℕ) → s ≤ 1 → not (s == 1 && side == 1 && at % 2 == 0) ≡ false → (at ≤ last s t) → last s t < at + side → ⊥
axis_carried zero side at t h e a b = grind (arith, nat_tests)
axis_carried (suc zero) side at t h e a b = let f = uncarried (at % 2) side e in omega (arith, f.0, f.1)
axis_carried (suc (suc s)) side at t h e a b = absurd (omega arith)

large_side : (a b s t : ℕ) → s ≤ 1 → t ≤ 1 → 2 ≤ max a b → max (max a (2 ^ s)) (max b (2 ^ t)) ≡ max a b
large_side a b zero zero h k e = omega arith
large_side a b zero (suc zero) h k e = omega arith
large_side a b (suc zero) zero h k e = omega arith
large_side a b (suc zero) (suc zero) h k e = omega arith
large_side a b (suc (suc s)) t h k e = absurd (omega arith)
large_side a b zero (suc (suc t)) h k e = absurd (omega arith)
large_side a b (suc zero) (suc (suc t)) h k e = absurd (omega arith)

starts-at : (b : Block) (nx ny s x y : ℕ) → node_x b ≡ nx → node_y b ≡ ny → node_side b ≡ s
    → starts b x y ≡ (if is_in x y nx ny s s then (ltb y b.y || ltb x b.x) else is_earlier x y nx ny)
starts-at b nx ny s x y ex ey es = rw (ex, ey, es) refl

opens-at : (sx sy : ℕ) (b : Block) (nx ny s x y : ℕ) → node_x b ≡ nx → node_y b ≡ ny → node_side b ≡ s
    → opens sx sy b x y
    ≡ (if is_in (x * 2 ^ sx) (y * 2 ^ sy) nx ny s s then (ltb y (area sx sy b).y || ltb x (area sx sy b).x) else is_earlier (x * 2 ^ sx) (y * 2 ^ sy) nx ny)
opens-at sx sy b nx ny s x y ex ey es = rw (ex, ey, es) refl

alike : (nx ny s lx ly cx cy : ℕ) (p q r t : Bool) → is_in lx ly nx ny s s ≡ is_in cx cy nx ny s s → p ≡ r → q ≡ t →
    is_earlier lx ly nx ny ≡ is_earlier cx cy nx ny
    → (if is_in lx ly nx ny s s then (p || q) else is_earlier lx ly nx ny) ≡ (if is_in cx cy nx ny s s then (r || t) else is_earlier cx cy nx ny)
alike nx ny s lx ly cx cy p q r t a b c d = rw (a, b, c, d) refl

pub node_place : (b : Block) (m s : ℕ) → node_side b ≡ s → b.x - b.x % s ≡ m → node_x b ≡ m
node_place b m s e f = rw e f

pub node_row : (b : Block) (m s : ℕ) → node_side b ≡ s → b.y - b.y % s ≡ m → node_y b ≡ m
node_row b m s e f = rw e f

module _ (sx sy : ℕ) (hx : sx ≤ 1) (hy : sy ≤ 1) (b : Block) where
  -- the leaf holds a unit's last cell where its area holds the unit
  pub last_in_leaf : IsWhole sx b.x b.columns → IsWhole sy b.y b.rows → (x y : ℕ)
      → is_in (last sx x) (last sy y) b.x b.y b.columns b.rows
      ≡ is_in x y (area sx sy (widened sx sy b)).x (area sx sy (widened sx sy b)).y (area sx sy (widened sx sy b)).columns (area sx sy (widened sx sy b)).rows
  unfolding is_in
  last_in_leaf wx wy x y =
      rw (from_first sx b.x b.columns x hx wx, to_last sx b.x b.columns x hx wx, from_first sy b.y b.rows y hy wy, to_last sy b.y b.rows y hy wy) refl

  pub carried : carries sx sy b ≡ true → IsEven b.x b.columns → IsEven b.y b.rows → IsWhole sx b.x b.columns × IsWhole sy b.y b.rows
  unfolding IsWhole
  carried e ex ey =
      let p = and_parts (not (sx == 1 && b.columns == 1 && b.x % 2 == 0)) (not (sy == 1 && b.rows == 1 && b.y % 2 == 0)) e in
      ((carried_axis sx b.columns b.x p.0, ex), (carried_axis sy b.rows b.y p.1, ey))

  pub not_carried : carries sx sy b ≡ false → (x y : ℕ) → is_in (last sx x) (last sy y) b.x b.y b.columns b.rows ≡ false
  not_carried e x y =
      false_from_ne_true (is_in (last sx x) (last sy y) b.x b.y b.columns b.rows)
      (λ i.
      let p = places (last sx x) (last sy y) b.x b.y b.columns b.rows i in
      elim (and_cases (not (sx == 1 && b.columns == 1 && b.x % 2 == 0)) (not (sy == 1 && b.rows == 1 && b.y % 2 == 0)) e) [
        | inl f ↦ axis_carried sx b.columns b.x x hx f p.left p.right
        | inr f ↦ axis_carried sy b.rows b.y y hy f p.top p.bottom
      ])

  module _ (g : IsOnGrid b) (large : 1 ≤ g.log) (wx : IsWhole sx b.x b.columns) (wy : IsWhole sy b.y b.rows) where
    even_node_x : (node_x b % 2 ≡ 0) × (2 ^ g.log % 2 ≡ 0) × (2 ≤ 2 ^ g.log)
    even_node_x = even_power g.log (node_x b) large g.small g.x_at

    even_node_y : (node_y b % 2 ≡ 0) × (2 ^ g.log % 2 ≡ 0) × (2 ≤ 2 ^ g.log)
    even_node_y = even_power g.log (node_y b) large g.small g.y_at

    pub large_node : (node_side (widened sx sy b) ≡ node_side b) × (node_x (widened sx sy b) ≡ node_x b) × (node_y (widened sx sy b) ≡ node_y b)
    large_node =
        let es = even_node_x in
        let side : node_side (widened sx sy b) ≡ node_side b = large_side b.columns b.rows sx sy hx hy (rw g.side es.2) in
        let side2 : node_side (widened sx sy b) ≡ 2 ^ g.log = side ∙ g.side in
        let px = widened_place sx b.x b.columns (node_x b) (2 ^ g.log) hx es.0 es.1 wx g.left g.room_x in
        let py = widened_place sy b.y b.rows (node_y b) (2 ^ g.log) hy even_node_y.0 es.1 wy g.top g.room_y in (
          side,
          rw side2 (span_start (2 ^ g.log) (node_x b) (b.x - b.x % 2 ^ sx) g.x_at px.0 (omega (arith, px.1, px.2))),
          rw side2 (span_start (2 ^ g.log) (node_y b) (b.y - b.y % 2 ^ sy) g.y_at py.0 (omega (arith, py.1, py.2))),
        )

    same_in_node : (x y n m s : ℕ) → n % 2 ≡ 0 → m % 2 ≡ 0 → s % 2 ≡ 0 → is_in (last sx x) (last sy y) n m s s ≡ is_in (x * 2 ^ sx) (y * 2 ^ sy) n m s s
    unfolding is_in
    same_in_node x y n m s en em es = rw (span_from sx n x hx en, span_to sx n s x hx en es, span_from sy m y hy em, span_to sy m s y hy em es) refl

    pub large_opens : (x y : ℕ) → starts b (last sx x) (last sy y) ≡ opens sx sy (widened sx sy b) x y
    large_opens x y =
        let ex = even_node_x in
        let ey = even_node_y in
        let n = large_node in
        starts-at b (node_x b) (node_y b) (2 ^ g.log) (last sx x) (last sy y) refl refl g.side
        ∙ alike (node_x b) (node_y b) (2 ^ g.log) (last sx x) (last sy y) (x * 2 ^ sx) (y * 2 ^ sy) (ltb (last sy y) b.y) (ltb (last sx x) b.x)
        (ltb y (area sx sy (widened sx sy b)).y) (ltb x (area sx sy (widened sx sy b)).x)
        (same_in_node x y (node_x b) (node_y b) (2 ^ g.log) ex.0 ey.0 ex.1) (before_first sy b.y b.rows y hy wy) (before_first sx b.x b.columns x hx wx)
        (same_earlier_2 (last sx x) (last sy y) (x * 2 ^ sx) (y * 2 ^ sy) (node_x b) (node_y b) (same_pair sx x hx) (same_pair sy y hy) ex.0 ey.0)
        ∙ sym (opens-at sx sy (widened sx sy b) (node_x b) (node_y b) (2 ^ g.log) x y n.1 n.2 (n.0 ∙ g.side))

clash : {b : Bool} → b ≡ true → b ≡ false → ⊥
clash e f = true≢false (sym e ∙ f)

-- Where the leaf is one cell, its area is one of the units of a node of two cells.
column_earlier : (x y v : ℕ) → is_earlier x v x y ≡ ltb v y
column_earlier x y v = go (cases_lt v y)
  where
    go : (v < y) ⊎ (y ≤ v) → is_earlier x v x y ≡ ltb v y
    go (inl a) = always_earlier x v x y (omega arith) (omega arith) (inr a) ∙ sym (lt-ltb v y a)
    go (inr a) = never_earlier x v x y (omega arith) a ∙ sym (le-ltb v y a)

one_cell : (x y u v : ℕ) → (if is_in u v x y 1 1 then (ltb v y || ltb u x) else is_earlier u v x y) ≡ is_earlier u v x y
one_cell x y u v = go (is_in u v x y 1 1) refl
  where
    self : (p : Places u v x y 1 1) → (ltb v y || ltb u x) ≡ false
    self p = let a = p.left in let b = p.top in plain a b
      where
        plain : x ≤ u → y ≤ v → (ltb v y || ltb u x) ≡ false
        plain a b = grind (arith, nat_tests)

    go : (q : Bool) → is_in u v x y 1 1 ≡ q → (if q then (ltb v y || ltb u x) else is_earlier u v x y) ≡ is_earlier u v x y
    go true e = let p = places u v x y 1 1 e in self p ∙ sym (never_earlier u v x y p.left p.top)
    go false e = refl

small_plain : (x y lx ly cx cy nx ny ax ay tx ty : ℕ) → lx / 2 ≡ cx / 2 → ly / 2 ≡ cy / 2 → x / 2 ≡ nx / 2 → y / 2 ≡ ny / 2 → nx % 2 ≡ 0 → ny % 2 ≡ 0
    → (lx / 2 ≡ x / 2 → (lx ≡ x) × (ax ≤ tx)) → (ly / 2 ≡ y / 2 → (ly < y → ty < ay) × (ty < ay → ly < y))
    → (if is_in lx ly x y 1 1 then (ltb ly y || ltb lx x) else is_earlier lx ly x y) ≡ (if is_in cx cy nx ny 2 2 then (ltb ty ay || ltb tx ax)
    else is_earlier cx cy nx ny)
small_plain x y lx ly cx cy nx ny ax ay tx ty elx ely ex ey hx hy fx fy = one_cell x y lx ly ∙ go (is_in cx cy nx ny 2 2) refl
  where
    go : (q : Bool) → is_in cx cy nx ny 2 2 ≡ q → is_earlier lx ly x y ≡ (if q then (ltb ty ay || ltb tx ax) else is_earlier cx cy nx ny)
    go true e =
        let p = places cx cy nx ny 2 2 e in
        let l = p.left in let r = p.right in let t = p.top in let d = p.bottom in
        let gx = fx (omega arith) in
        let gy = fy (omega arith) in
        ap (λ u. is_earlier u ly x y) gx.0 ∙ column_earlier x y ly ∙ ltb_same ly y ty ay gy.0 gy.1 ∙ or_nothing (ltb ty ay) (ltb tx ax) (le-ltb tx ax gx.1)
    go false e =
        earlier_apart lx ly cx cy x y nx ny elx ely ex ey
        (λ a b. clash (placed cx cy nx ny 2 2 (record { left = omega arith; right = omega arith; top = omega arith; bottom = omega arith })) e)

alike_at : (nx ny s lx ly cx cy bx by ax ay x y : ℕ) → lx ≡ cx → ly ≡ cy → lx ≡ x → ly ≡ y → ax ≡ bx → ay ≡ by
    → (if is_in lx ly nx ny s s then (ltb ly by || ltb lx bx) else is_earlier lx ly nx ny) ≡ (if is_in cx cy nx ny s s then (ltb y ay || ltb x ax)
    else is_earlier cx cy nx ny)
alike_at nx ny s lx ly cx cy bx by ax ay x y a b c d e f = rw (e, f, ← a, ← b, ← c, ← d) refl

pub small_opens : (sx sy : ℕ) → sx ≤ 1 → sy ≤ sx → (b : Block) → node_side b ≡ 1 → b.columns ≡ 1 → b.rows ≡ 1 → IsWhole sx b.x b.columns →
    IsWhole sy b.y b.rows → (x y : ℕ)
    → starts b (last sx x) (last sy y) ≡ opens sx sy (widened sx sy b) x y
unfolding IsWhole
small_opens zero zero hx hy b side ec er wx wy x y =
    let w = widened 0 0 b in
    let side' : node_side w ≡ 1 = omega arith in
    starts-at b b.x b.y 1 (last 0 x) (last 0 y) (node_place b b.x 1 side (omega arith)) (node_row b b.y 1 side (omega arith)) side
    ∙ alike_at b.x b.y 1 (last 0 x) (last 0 y) (x * 1) (y * 1) b.x b.y ((b.x - b.x % 1) / 1) ((b.y - b.y % 1) / 1) x y
    (omega arith) (omega arith) (omega arith) (omega arith) (omega arith) (omega arith)
    ∙ sym (opens-at 0 0 w b.x b.y 1 x y (node_place w b.x 1 side' (omega arith)) (node_row w b.y 1 side' (omega arith)) side')
small_opens (suc zero) zero hx hy b side ec er (ox, ex) wy x y =
    let odd : b.x % 2 ≡ 1 = ox refl ec in
    let w = widened 1 0 b in
    let side' : node_side w ≡ 2 = omega arith in
    let nx = b.x - b.x % 2 in
    let ny = b.y - b.y % 2 in
    starts-at b b.x b.y 1 (last 1 x) (last 0 y) (node_place b b.x 1 side (omega arith)) (node_row b b.y 1 side (omega arith)) side
    ∙ small_plain b.x b.y (last 1 x) (last 0 y) (x * 2) (y * 1) nx ny ((b.x - b.x % 2) / 2) ((b.y - b.y % 1) / 1) x y
    (omega arith) (omega arith) (omega arith) (omega arith) (omega arith) (omega arith) (λ e. (omega arith, omega arith))
    (λ e. ((λ a. omega arith), (λ a. omega arith)))
    ∙ sym (opens-at 1 0 w nx ny 2 x y (node_place w nx 2 side' (omega arith)) (node_row w ny 2 side' (omega arith)) side')
small_opens (suc zero) (suc zero) hx hy b side ec er (ox, ex) (oy, ey) x y =
    let odd : b.x % 2 ≡ 1 = ox refl ec in
    let odd' : b.y % 2 ≡ 1 = oy refl er in
    let w = widened 1 1 b in
    let side' : node_side w ≡ 2 = omega arith in
    let nx = b.x - b.x % 2 in
    let ny = b.y - b.y % 2 in
    starts-at b b.x b.y 1 (last 1 x) (last 1 y) (node_place b b.x 1 side (omega arith)) (node_row b b.y 1 side (omega arith)) side
    ∙ small_plain b.x b.y (last 1 x) (last 1 y) (x * 2) (y * 2) nx ny ((b.x - b.x % 2) / 2) ((b.y - b.y % 2) / 2) x y
    (omega arith) (omega arith) (omega arith) (omega arith) (omega arith) (omega arith) (λ e. (omega arith, omega arith))
    (λ e. ((λ a. omega arith), (λ a. omega arith)))
    ∙ sym (opens-at 1 1 w nx ny 2 x y (node_place w nx 2 side' (omega arith)) (node_row w ny 2 side' (omega arith)) side')
small_opens zero (suc sy) hx hy b side ec er wx wy x y = absurd (omega arith)
small_opens (suc zero) (suc (suc sy)) hx hy b side ec er wx wy x y = absurd (omega arith)
small_opens (suc (suc sx)) sy hx hy b side ec er wx wy x y = absurd (omega arith)
