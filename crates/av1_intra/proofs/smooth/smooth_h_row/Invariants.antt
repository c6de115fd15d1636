use Rattle.std.proofs.Common.{◌≡◌, ◌+◌, ◌*◌, ◌/◌, slice_index}
use Rattle.av1_frame.specs.Samples.{paint_row}
use Rattle.av1_intra.specs.Smooth.{mix}
use Rattle.av1_intra.proofs.smooth.smooth_h_row.Given as goal

abbrev pub invariant-loop-g : goal.invariant-loop-g
invariant-loop-g g l =
    l.row ≡ paint_row (g.row.N * l.g) (λ c _. g.T.Pixel.pixel ((mix (slice_index l.weights c) l.side l.right + 128) / 256)) l.initial.row
