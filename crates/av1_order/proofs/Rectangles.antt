-- The places that a rectangle holds.
use Rattle.std.proofs.Common.{◌≡◌, ℕ, ◌+◌, ◌<◌, ◌≤◌, true, ◌&&◌, leb, ltb}
use Rattle.std.proofs.lemmas.Bool.{and_parts, and_from, leb-true, ltb-true, le-leb, lt-ltb}
use Rattle.av1_avail.specs.Order.{is_in}

-- what a rectangle holds
pub record Places (x y rx ry w h : ℕ) : Type 0 where
  pub left : rx ≤ x
  pub right : x < rx + w
  pub top : ry ≤ y
  pub bottom : y < ry + h

pub places : (x y rx ry w h : ℕ) → is_in x y rx ry w h ≡ true → Places x y rx ry w h
unfolding is_in
places x y rx ry w h e =
    let three = and_parts (leb rx x && ltb x (rx + w) && leb ry y) (ltb y (ry + h)) e in
    let two = and_parts (leb rx x && ltb x (rx + w)) (leb ry y) three.0 in
    let one = and_parts (leb rx x) (ltb x (rx + w)) two.0 in
    record { left = leb-true rx x one.0; right = ltb-true x (rx + w) one.1; top = leb-true ry y two.1; bottom = ltb-true y (ry + h) three.1 }

pub placed : (x y rx ry w h : ℕ) → Places x y rx ry w h → is_in x y rx ry w h ≡ true
unfolding is_in
placed x y rx ry w h p =
    and_from (leb rx x && ltb x (rx + w) && leb ry y) (ltb y (ry + h))
    (and_from (leb rx x && ltb x (rx + w)) (leb ry y) (and_from (leb rx x) (ltb x (rx + w)) (le-leb rx x p.left) (lt-ltb x (rx + w) p.right))
    (le-leb ry y p.top))
    (lt-ltb y (ry + h) p.bottom)
