use Rattle.av1_trace.proofs.Frames.{narrow_part, wide_part}
use Rattle.av1_trace.proofs.samples.sample_run.Goals as goal

pub returns-then-depth-eq8-clause-samples : goal.returns-then-depth-eq8-clause-samples
returns-then-depth-eq8-clause-samples c = narrow_part c.args.depth c.args.start c.args.count c.args.bytes.now c.if-depth-eq8.true

pub returns-else-depth-eq8-clause-samples : goal.returns-else-depth-eq8-clause-samples
returns-else-depth-eq8-clause-samples c = wide_part c.args.depth c.args.start c.args.count c.args.bytes.now c.if-depth-eq8.false
