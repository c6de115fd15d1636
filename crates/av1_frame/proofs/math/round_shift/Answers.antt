use Rattle.std.proofs.Common.{arith}
use Rattle.std.proofs.lemmas.Int.{ints}
use Rattle.av1_frame.proofs.Arithmetic.{half_small, sum_fits, round_shift_is}
use Rattle.av1_frame.proofs.math.round_shift.Goals as goal

pub returns : goal.returns
returns c =
    let s = half_small c.args.bit c.requires.small in
    let f = sum_fits c.args.v c.args.bit c.ranges.v c.requires.small c.requires.fits in
    round_shift_is c.args.v c.args.bit f _ (omega (arith, ints, s, f))
