use Rattle.std.proofs.Common.{◌∙◌}
use Rattle.av1_recon.proofs.SampleBytes.{bytes_at_eight, bytes_above_eight}
use Rattle.av1_recon.proofs.samples.pack.Goals as goal

pub returns-then-depth-eq8-clause-bytes : goal.returns-then-depth-eq8-clause-bytes
returns-then-depth-eq8-clause-bytes g c = c.pack_one.ensures ∙ bytes_at_eight g.T.Pixel.num c.args.depth c.args.samples.now c.if-depth-eq8.true

pub returns-else-depth-eq8-clause-bytes : goal.returns-else-depth-eq8-clause-bytes
returns-else-depth-eq8-clause-bytes g c = c.pack_two.ensures ∙ bytes_above_eight g.T.Pixel.num c.args.depth c.args.samples.now c.if-depth-eq8.false
