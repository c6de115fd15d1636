use Rattle.std.proofs.Common.{◌≡◌, ◌+◌}
use Rattle.av1_frame.specs.Samples.{paint_row}
use Rattle.av1_intra.specs.Sides.{numbers}
use Rattle.av1_intra.specs.Paeth.{paeth}
use Rattle.av1_intra.proofs.paeth.paeth_line.Given as goal

abbrev pub invariant-loop-c : goal.invariant-loop-c
invariant-loop-c g l =
    l.line ≡ paint_row l.c (λ c _. g.T.Pixel.pixel (paeth (numbers g.T.Pixel.num l.above (l.start + c)) (g.T.Pixel.num l.left) (g.T.Pixel.num l.corner)))
    l.initial.line
