use Rattle.std.proofs.Common.{arith}
use Rattle.av1_planwrite.proofs.Items.{greatest_more}
use Rattle.av1_planwrite.proofs.admitted.greatest.Goals.{then-sample-greatest, else-sample-greatest}
use Rattle.av1_planwrite.proofs.admitted.greatest.Goals as goal

pub loop-sample-preserved : goal.loop-sample-preserved
loop-sample-preserved c =
    let more = greatest_more c.args.samples.now c.loop-sample.sample-index 0 (omega arith) in
    elim c.if-sample-greatest.branch [
      | then-sample-greatest w ↦ omega (arith, more, c.loop-sample.invariant, w.greatest-is, w.if-sample-greatest.true)
      | else-sample-greatest w ↦ omega (arith, more, c.loop-sample.invariant, w.greatest-is, w.if-sample-greatest.false)
    ]
