-- From one transform of a block to the next.
use Rattle.std.proofs.Common.{◌≡◌, ℕ, ◌+◌, ◌≤◌, ◌||◌, ltb, arith}
use Rattle.std.proofs.lemmas.Bool.Decides.{nat_tests}
use Rattle.av1_avail.specs.Order.{is_in, is_before_in_block}

-- the next transform in its row, and the next row
pub block_step : (bx by w h tw th r c x y : ℕ) → c + tw ≤ w → r + th ≤ h
    → (is_before_in_block bx by w h th r c x y || is_in x y (bx + c) (by + r) tw th) ≡ is_before_in_block bx by w h th r (c + tw) x y
unfolding is_before_in_block is_in
block_step bx by w h tw th r c x y hc hr = grind (arith, nat_tests)

pub row_end : (bx by w h th r x y : ℕ) → r + th ≤ h → is_before_in_block bx by w h th r w x y ≡ is_before_in_block bx by w h th (r + th) 0 x y
unfolding is_before_in_block
row_end bx by w h th r x y hr = grind (arith, nat_tests)

-- before the first, and after the last
pub block_start : (bx by w h th x y : ℕ) → (ltb y by || ltb x bx) ≡ is_before_in_block bx by w h th 0 0 x y
unfolding is_before_in_block
block_start bx by w h th x y = grind (arith, nat_tests)

pub block_end : (bx by w h th x y : ℕ) → is_before_in_block bx by w h th h 0 x y ≡ (ltb y by || ltb x bx || is_in x y bx by w h)
unfolding is_before_in_block is_in
block_end bx by w h th x y = grind (arith, nat_tests)

pub block_whole : (bx by w h x y : ℕ) → is_before_in_block bx by w h h 0 (0 + w) x y ≡ (ltb y by || ltb x bx || is_in x y bx by w h)
unfolding is_before_in_block is_in
block_whole bx by w h x y = grind (arith, nat_tests)
