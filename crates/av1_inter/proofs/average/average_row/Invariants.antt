use Rattle.std.proofs.Common.{◌≡◌, ◌+◌}
use Rattle.av1_frame.specs.Samples.{paint_row}
use Rattle.av1_inter.specs.Motion.{averaged, entry}
use Rattle.av1_inter.proofs.average.average_row.Given as goal

abbrev pub invariant-loop-c : goal.invariant-loop-c
invariant-loop-c g l =
    l.row ≡ paint_row l.c (λ c _. g.T.Pixel.pixel (averaged l.bit_depth (entry l.tmp1 (l.start + c)) (entry l.tmp2 (l.start + c)))) l.initial.row
