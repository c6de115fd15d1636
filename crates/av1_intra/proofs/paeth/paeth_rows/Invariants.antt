use Rattle.std.proofs.Common.{◌≡◌}
use Rattle.av1_frame.specs.Samples.{corner, paint}
use Rattle.av1_intra.specs.Sides.{numbers, from_top}
use Rattle.av1_intra.specs.Paeth.{paeth}
use Rattle.av1_intra.proofs.paeth.paeth_rows.Given as goal

abbrev pub invariant-loop-r : goal.invariant-loop-r
invariant-loop-r g l =
    l.samples ≡ paint l.stride (corner l.area l.area.width l.r)
    (λ r c _. g.T.Pixel.pixel (paeth (numbers g.T.Pixel.num l.above c) (from_top g.T.Pixel.num l.area.height l.left r) (g.T.Pixel.num l.corner)))
    l.initial.samples
