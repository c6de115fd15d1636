use Rattle.std.proofs.Common.{◌≡◌, ◌+◌, slice_index}
use Rattle.av1_frame.specs.Samples.{paint_row}
use Rattle.av1_intra.specs.Scaffolding.{smoothed}
use Rattle.av1_intra.specs.Sides.{numbers}
use Rattle.av1_intra.proofs.smooth.smooth_line.Given as goal

abbrev pub invariant-loop-c : goal.invariant-loop-c
invariant-loop-c g l =
    l.line ≡ paint_row l.c (λ c _. g.T.Pixel.pixel (smoothed l.row (numbers g.T.Pixel.num l.above (l.start + c)) (slice_index l.weights (l.start + c))))
    l.initial.line
