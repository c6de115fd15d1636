use Rattle.std.proofs.Common.{◌∙◌, sym}
use Rattle.av1_avail.proofs.Quadtree.{reaches_found, reaches_more}
use Rattle.av1_avail.proofs.bits.reaches_lower_right.Goals as goal

pub returns-then-y-k-eq1 : goal.returns-then-y-k-eq1
returns-then-y-k-eq1 c =
    sym (c.loop-k.invariant ∙ reaches_found c.loop-k.k c.args.x c.args.y c.loop-k-test.true c.if-x-k-eq0.false c.if-y-k-eq1.true)

pub loop-k-preserved : goal.loop-k-preserved
loop-k-preserved c = c.loop-k.invariant ∙ reaches_more c.loop-k.k c.args.x c.args.y c.loop-k-test.true c.if-x-k-eq0.false c.if-y-k-eq1.false
