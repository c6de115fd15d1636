-- The arithmetic of the one-dimensional transforms.
use Rattle.std.specs.Prelude.{◌≡◌, ℤ, pos, ◌+ℤ◌, ◌-ℤ◌, ◌*ℤ◌}
use Rattle.std.specs.Int.RustNames.{FitsSigned}
use Rattle.std.specs.Int.{int_shr, w32}
use Rattle.av1_dct.specs.Arithmetic.{round12}

-- the operations that the transforms compute with
pub record Operations : Type 0 where
  pub plus : ℤ → ℤ → ℤ
  pub minus : ℤ → ℤ → ℤ
  pub times : ℤ → ℤ → ℤ
  pub round : ℤ → ℤ

-- whole numbers, wrapped at 32 bits when a sum of products is rounded: the transforms are defined by these
abbrev pub wrapping : Operations
wrapping = record { plus = λ x y. x +ℤ y; minus = λ x y. x -ℤ y; times = λ x y. x *ℤ y; round = round12 }

-- Each operation gives the whole number if it fits 32 signed bits. If not, it may give any number.
pub record AreRight32 (ops : Operations) : Type 0 where
  pub plus : (x y : ℤ) → FitsSigned w32 (x +ℤ y) → ops.plus x y ≡ x +ℤ y
  pub minus : (x y : ℤ) → FitsSigned w32 (x -ℤ y) → ops.minus x y ≡ x -ℤ y
  pub times : (x y : ℤ) → FitsSigned w32 (x *ℤ y) → ops.times x y ≡ x *ℤ y
  pub round : (s : ℤ) → FitsSigned w32 (s +ℤ pos 2048) → ops.round s ≡ int_shr (s +ℤ pos 2048) 12

-- one half of a butterfly rotation: two values by two weights, rounded
unfoldable pub half_btf_with : Operations → ℤ → ℤ → ℤ → ℤ → ℤ
half_btf_with ops w0 in0 w1 in1 = ops.round (ops.plus (ops.times w0 in0) (ops.times w1 in1))

abbrev pub half_btf : ℤ → ℤ → ℤ → ℤ → ℤ
half_btf = half_btf_with wrapping
