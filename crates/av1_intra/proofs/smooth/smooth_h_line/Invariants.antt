use Rattle.std.proofs.Common.{◌≡◌, ◌+◌, ◌/◌, slice_index}
use Rattle.av1_frame.specs.Samples.{paint_row}
use Rattle.av1_intra.specs.Smooth.{mix}
use Rattle.av1_intra.proofs.smooth.smooth_h_line.Given as goal

abbrev pub invariant-loop-c : goal.invariant-loop-c
invariant-loop-c g l =
    l.line ≡ paint_row l.c (λ c _. g.T.Pixel.pixel ((mix (slice_index l.weights (l.start + c)) l.side l.right + 128) / 256)) l.initial.line
