use Rattle.std.proofs.Common.{◌≡◌, ◌*◌}
use Rattle.av1_frame.specs.Samples.{paint_row}
use Rattle.av1_intra.specs.Sides.{numbers}
use Rattle.av1_intra.specs.Paeth.{paeth}
use Rattle.av1_intra.proofs.paeth.paeth_row.Given as goal

abbrev pub invariant-loop-g : goal.invariant-loop-g
invariant-loop-g g l =
    l.row ≡ paint_row (g.row.N * l.g) (λ c _. g.T.Pixel.pixel (paeth (numbers g.T.Pixel.num l.above c) (g.T.Pixel.num l.left) (g.T.Pixel.num l.corner)))
    l.initial.row
