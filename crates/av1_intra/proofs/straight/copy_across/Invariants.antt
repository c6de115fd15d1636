use Rattle.std.proofs.Common.{◌≡◌}
use Rattle.av1_frame.specs.Samples.{corner, paint}
use Rattle.av1_intra.specs.Sides.{from_top}
use Rattle.av1_intra.proofs.straight.copy_across.Given as goal

abbrev pub invariant-loop-r : goal.invariant-loop-r
invariant-loop-r g l =
    l.samples ≡ paint l.stride (corner l.area l.area.width l.r) (λ r _ _. g.T.Pixel.pixel (from_top g.T.Pixel.num l.area.height l.left r)) l.initial.samples
