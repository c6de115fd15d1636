use Rattle.std.proofs.Common.{◌≡◌, ◌+◌, ◌/◌}
use Rattle.av1_frame.specs.Samples.{paint_row}
use Rattle.av1_intra.specs.Sides.{numbers}
use Rattle.av1_intra.specs.Smooth.{mix}
use Rattle.av1_intra.proofs.smooth.smooth_v_line.Given as goal

abbrev pub invariant-loop-c : goal.invariant-loop-c
invariant-loop-c g l =
    l.line ≡ paint_row l.c (λ c _. g.T.Pixel.pixel ((mix l.weight (numbers g.T.Pixel.num l.above (l.start + c)) l.bottom + 128) / 256)) l.initial.line
