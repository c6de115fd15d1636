use Rattle.std.proofs.Common.{◌≡◌, ◌+◌, ◌*◌, slice_index_or, pos, ◌+ℤ◌}
use Rattle.av1_frame.specs.Arithmetic.{clip}
use Rattle.av1_frame.specs.Samples.{paint_row}
use Rattle.av1_intra.specs.ChromaFromLuma.{scaled_luma}
use Rattle.av1_intra.proofs.chroma_from_luma.row_from_luma.Given as goal

abbrev pub invariant-loop-g : goal.invariant-loop-g
invariant-loop-g g l =
    l.row ≡ paint_row (g.row.N * l.g)
    (λ c _. g.T.Pixel.pixel
    (clip l.weight.bit_depth (pos (g.T.Pixel.num l.weight.dc) +ℤ scaled_luma l.weight.alpha (slice_index_or l.ac (l.start + c) (pos 0)))))
    l.initial.row
