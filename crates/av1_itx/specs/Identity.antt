-- The inverse identity transform processes of the AV1 specification, for 4, 8, 16 and 32 values.
use Rattle.std.specs.Prelude.{ℕ, zero, suc, ◌*◌, ◌^◌, ℤ, pos, ◌+ℤ◌, List}
use Rattle.std.specs.Int.{int_shr}
use Rattle.av1_dct.specs.Arithmetic.{at}
use Rattle.av1_dct.specs.Operations.{Operations, wrapping}
use Rattle.av1_lists.specs.Lists.{by_index}

-- one of 2^(k+1) values after the transform: for k from 1 to 4 it is scaled by the square root of 2, by 2, by twice the
-- square root of 2, and by 4
unfoldable pub scaled_with : Operations → ℕ → ℤ → ℤ
scaled_with ops (suc zero) z = ops.round (ops.times (pos 5793) z)
scaled_with ops (suc (suc zero)) z = ops.times (pos 2) z
scaled_with ops (suc (suc (suc zero))) z = ops.round (ops.times (pos 11586) z)
scaled_with ops k z = ops.times (pos 4) z

abbrev pub scaled : ℕ → ℤ → ℤ
scaled = scaled_with wrapping

-- whole numbers that never wrap, as in AV1
abbrev pub exact : Operations
exact = record wrapping { round = λ s. int_shr (s +ℤ pos 2048) 12 }

-- The inverse identity transform of 2^(k+1) values, for k from 1 to 4.
unfoldable pub identity_with : Operations → ℕ → List ℤ → List ℤ
identity_with ops k x = by_index (2 * 2 ^ k) (λ i. scaled_with ops k (at x i))

abbrev pub identity : ℕ → List ℤ → List ℤ
identity = identity_with wrapping
