use Rattle.std.proofs.Common.{◌≡◌}
use Rattle.av1_frame.specs.Samples.{corner, paint}
use Rattle.av1_inter.specs.Scaffolding.{sample_of}
use Rattle.av1_inter.proofs.copies.copy_any_rows.Given as goal

abbrev pub invariant-loop-r : goal.invariant-loop-r
invariant-loop-r g l =
    l.samples ≡ paint l.stride (corner l.block.area l.block.area.width l.r)
    (λ r c _. g.T.Pixel.pixel (sample_of g.T.Pixel.num l.block c r)) l.initial.samples
