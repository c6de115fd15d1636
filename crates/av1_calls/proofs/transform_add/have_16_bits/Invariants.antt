use Rattle.std.proofs.Common.{ℕ, ◌<◌}
use Rattle.av1_dct.specs.Arithmetic.{at, FitsBits}
use Rattle.av1_calls.proofs.transform_add.have_16_bits.Given as goal

abbrev pub invariant-loop-i : goal.invariant-loop-i
invariant-loop-i l = (k : ℕ) → k < l.i → FitsBits 16 (at l.coefficients k)
