use Rattle.std.proofs.Common.{◌≡◌, ◌+◌, ◌-◌, ◌/◌, slice_index}
use Rattle.av1_frame.specs.Samples.{corner, paint}
use Rattle.av1_intra.specs.Sides.{numbers}
use Rattle.av1_intra.specs.Smooth.{mix}
use Rattle.av1_intra.proofs.smooth.smooth_h_rows.Given as goal

abbrev pub invariant-loop-r : goal.invariant-loop-r
invariant-loop-r g l =
    l.samples ≡ paint l.stride (corner l.area l.area.width l.r)
    (λ r c _.
    g.T.Pixel.pixel
    ((mix (slice_index l.weights c) (numbers g.T.Pixel.num l.left (l.area.height - 1 - r)) (numbers g.T.Pixel.num l.fn.above (l.area.width - 1)) + 128) /
    256)) l.initial.samples
