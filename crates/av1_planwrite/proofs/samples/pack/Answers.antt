use Rattle.std.proofs.Common.{◌∙◌}
use Rattle.av1_planwrite.proofs.Packed.{at_eight, above_eight}
use Rattle.av1_planwrite.proofs.samples.pack.Goals as goal

pub returns-then-depth-eq8-clause-bytes : goal.returns-then-depth-eq8-clause-bytes
returns-then-depth-eq8-clause-bytes c = c.pack_one.ensures.text ∙ at_eight c.args.depth c.args.samples.now c.if-depth-eq8.true

pub returns-else-depth-eq8-clause-bytes : goal.returns-else-depth-eq8-clause-bytes
returns-else-depth-eq8-clause-bytes c = c.pack_two.ensures.text ∙ above_eight c.args.depth c.args.samples.now c.if-depth-eq8.false
