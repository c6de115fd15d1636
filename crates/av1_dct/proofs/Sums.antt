-- Hadamard rotations at one place: which of a sum and a difference it becomes.
use Rattle.std.proofs.Common.{ℕ, false, ◌≡◌, ◌-◌, ◌*◌, ◌<◌, ℤ, ◌+ℤ◌, ◌-ℤ◌, List, arith, w32, FitsSigned}
use Rattle.std.proofs.lemmas.Bool.Decides.{nat_tests}
use Rattle.std.proofs.lemmas.Int.{ints}
use Rattle.av1_dct.specs.Arithmetic.{FitsBits, at, clamp_value}
use Rattle.av1_dct.specs.Cosine.{mirror_sum, mirror_sum_with}

pub sum_fits : (x y : ℤ) → FitsBits 20 x → FitsBits 20 y → FitsSigned w32 (x +ℤ y)
sum_fits x y hx hy = omega (arith, ints)

pub difference_fits : (x y : ℤ) → FitsBits 20 x → FitsBits 20 y → FitsSigned w32 (x -ℤ y)
difference_fits x y hx hy = omega (arith, ints)

pub mirror-low : (range m : ℕ) (w : List ℤ) (p e : ℕ) (x y : ℤ) → p < m → e ≡ 2 * m - 1 - p → x ≡ at w p → y ≡ at w e →
    clamp_value (x +ℤ y) range ≡ mirror_sum range false m w p
unfolding mirror_sum_with
mirror-low range m w p e x y hp he hx hy = grind (arith, nat_tests)

pub mirror-high : (range m : ℕ) (w : List ℤ) (p e : ℕ) (x y : ℤ) → p < m → e ≡ 2 * m - 1 - p → x ≡ at w p → y ≡ at w e →
    clamp_value (x -ℤ y) range ≡ mirror_sum range false m w e
unfolding mirror_sum_with
mirror-high range m w p e x y hp he hx hy = grind (arith, nat_tests)
