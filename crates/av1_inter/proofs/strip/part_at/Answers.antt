use Rattle.std.proofs.Common.{arith}
use Rattle.av1_inter.proofs.Strips.{part_sample}
use Rattle.av1_inter.proofs.strip.part_at.Goals as goal

pub overflow_add-area : goal.overflow_add-area
overflow_add-area g c = omega (arith, c.requires.fits.0, c.requires.columns)

pub overflow_add-area-2 : goal.overflow_add-area-2
overflow_add-area-2 g c = omega (arith, c.requires.fits.1, c.requires.rows)

pub returns-clause-samples : goal.returns-clause-samples
returns-clause-samples g c = λ q r.
    part_sample g.T.Pixel.num c.args.block.now.source.now c.split_at.result.1.now _ _ _ c.split_at.ensures.back (grind arith)
