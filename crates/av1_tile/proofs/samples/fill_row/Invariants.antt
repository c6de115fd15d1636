use Rattle.std.proofs.Common.{◌≡◌, ◌+◌, slice_index}
use Rattle.av1_frame.specs.Samples.{paint_row}
use Rattle.av1_tile.proofs.samples.fill_row.Given as goal

abbrev pub invariant-loop-c : goal.invariant-loop-c
invariant-loop-c g l = l.row ≡ paint_row l.c (λ c _. g.T.Pixel.pixel (slice_index l.samples (l.start + c))) l.initial.row
