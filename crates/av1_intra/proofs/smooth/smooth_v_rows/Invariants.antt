use Rattle.std.proofs.Common.{◌≡◌, ◌+◌, ◌/◌, slice_index}
use Rattle.av1_frame.specs.Samples.{corner, paint}
use Rattle.av1_intra.specs.Sides.{numbers}
use Rattle.av1_intra.specs.Smooth.{mix}
use Rattle.av1_intra.proofs.smooth.smooth_v_rows.Given as goal

abbrev pub invariant-loop-r : goal.invariant-loop-r
invariant-loop-r g l =
    l.samples ≡ paint l.stride (corner l.area l.area.width l.r)
    (λ r c _. g.T.Pixel.pixel ((mix (slice_index l.weights r) (numbers g.T.Pixel.num l.above c) (numbers g.T.Pixel.num l.fn.left 0) + 128) / 256))
    l.initial.samples
