use Rattle.std.proofs.Common.{◌≡◌, ◌+◌, ◌*◌, slice_index}
use Rattle.av1_frame.specs.Regions.{painted}
use Rattle.av1_tile.proofs.samples.fill_rows.Given as goal

abbrev pub invariant-loop-r : goal.invariant-loop-r
invariant-loop-r g l = l.output ≡ painted l.initial.output l.width l.r (λ r c _. g.T.Pixel.pixel (slice_index l.samples (r * l.width + c)))
