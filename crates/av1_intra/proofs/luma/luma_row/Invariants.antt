use Rattle.std.proofs.Common.{◌≡◌, ◌*◌, ◌^◌, min, pos}
use Rattle.av1_frame.specs.Samples.{paint_row}
use Rattle.av1_intra.specs.ChromaFromLuma.{covered, two_rows}
use Rattle.av1_intra.proofs.luma.luma_row.Given as goal

abbrev pub invariant-loop-c : goal.invariant-loop-c
invariant-loop-c g l =
    l.row ≡ paint_row l.c (λ c _. pos (covered (two_rows g.T.Pixel.num l.top l.below) g.row.XDEC g.row.YDEC (min (c * 2 ^ g.row.XDEC) l.last_column) 0))
    l.initial.row
