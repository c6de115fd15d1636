use Rattle.std.proofs.Common.{arith}
use Rattle.std.proofs.lemmas.Int.{ints, clamps}
use Rattle.av1_dct.proofs.Powers.{half_span}
use Rattle.av1_dct.specs.Arithmetic.{clamp_value}
use Rattle.av1_dct.proofs.arithmetic.clamp_value.Goals as goal

pub returns : goal.returns
unfolding clamp_value
returns c = omega (arith, ints, clamps, half_span c.args.bit (omega arith))
