use Rattle.av1_inter.proofs.Settled.{short_fits, short_is}
use Rattle.av1_inter.proofs.bytes.settle_short.Goals as goal

pub overflow_sub-result : goal.overflow_sub-result
overflow_sub-result c = short_fits c.args.rounding c.requires.rounding c.args.sum c.requires.within

pub returns : goal.returns
returns c = short_is c.args.rounding c.requires.rounding c.args.sum c.requires.within
