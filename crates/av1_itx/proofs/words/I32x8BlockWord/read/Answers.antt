use Rattle.std.proofs.Common.{arith, rules, ◌+◌, w32, FitsSigned}
use Rattle.av1_dct.specs.Arithmetic.{at}
use Rattle.av1_dct.proofs.LaneOperations.{lane_from, read_on}
use Rattle.av1_itx.proofs.words.I32x8BlockWord.read.Goals as goal

pub loop-k-preserved : goal.loop-k-preserved
loop-k-preserved c =
    let inv = c.loop-k.invariant in
    let f : FitsSigned w32 (at c.args.values.now (c.args.start + c.loop-k.k)) = search rules in
    read_on 8 c.args.start c.loop-k.k c.loop-k.lanes c.args.values.now (omega arith) f inv.0 inv.1.0 inv.1.1

pub returns : goal.returns
returns c = λ i h. lane_from 8 c.loop-k.lanes i _ h c.loop-k.invariant.0 (c.loop-k.invariant.1.0 i (omega arith)) (c.loop-k.invariant.1.1 i (omega arith))
