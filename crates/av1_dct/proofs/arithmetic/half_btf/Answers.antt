use Rattle.av1_dct.proofs.Turns.{btf_is}
use Rattle.av1_dct.proofs.arithmetic.half_btf.Goals as goal

pub returns : goal.returns
returns c = btf_is c.args.w0 c.args.in0 c.args.w1 c.args.in1 c.ranges.w0 c.ranges.in0 c.ranges.w1 c.ranges.in1
