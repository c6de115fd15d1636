use Rattle.std.proofs.Common.{◌≡◌, ◌+◌, ◌*◌}
use Rattle.av1_intra.specs.Sides.{numbers}
use Rattle.av1_intra.specs.Upsampling.{upsampled}
use Rattle.av1_intra.proofs.RowReads.{painted_past}
use Rattle.av1_intra.proofs.upsampling.upsample_edge.Given as goal

abbrev pub invariant-loop-e : goal.invariant-loop-e
invariant-loop-e g l =
    l.edge ≡ painted_past (2 * l.e) (2 * l.size + 1)
    (λ e _. g.T.Pixel.pixel (upsampled l.bit_depth l.size (numbers g.T.Pixel.num l.initial.edge) e)) l.initial.edge
