-- Wrapped and rounded sums, clamped values, and numbers of some bits.
use Rattle.std.specs.Prelude.{ℕ, ◌-◌, ◌^◌, ℤ, pos, neg_ℤ, ◌+ℤ◌, ◌≤ℤ◌, ◌<ℤ◌, List, slice_index_or}
use Rattle.std.specs.Int.{int_shr, int_wrap, int_min, int_max, w32}

-- the number from -2^31 to 2^31 - 1 that is equal to z modulo 2^32
abbrev pub wrap32 : ℤ → ℤ
wrap32 z = int_wrap w32 z

-- a sum of products with weights in twelve-bit fixed point, wrapped at 32 bits and rounded to a whole number, a half
-- upward
abbrev pub round12 : ℤ → ℤ
round12 s = int_shr (wrap32 (s +ℤ pos 2048)) 12

-- the number of b signed bits that is nearest to z
unfoldable pub clamp_value : ℤ → ℕ → ℤ
clamp_value z b = int_max (neg_ℤ (pos (2 ^ (b - 1)))) (int_min z (pos (2 ^ (b - 1) - 1)))

-- z is a number of b signed bits
pub record FitsBits (b : ℕ) (z : ℤ) : Type 0 where
  pub low : neg_ℤ (pos (2 ^ (b - 1))) ≤ℤ z
  pub high : z <ℤ pos (2 ^ (b - 1))

-- entry i of a list, and 0 past its end
abbrev pub at : List ℤ → ℕ → ℤ
at v i = slice_index_or v i (pos 0)

-- each entry of the list is a number of b signed bits
abbrev pub AllFit : ℕ → List ℤ → Type 0
AllFit b zs = (i : ℕ) → FitsBits b (at zs i)
