use Rattle.std.proofs.Common.{◌≡◌}
use Rattle.av1_frame.specs.Samples.{paint_row}
use Rattle.av1_inter.specs.Motion.{entry}
use Rattle.av1_inter.proofs.one_filter.write_row.Given as goal

abbrev pub invariant-loop-c : goal.invariant-loop-c
invariant-loop-c g l = l.row ≡ paint_row l.c (λ c _. g.W.Writer.written l.bit_depth (entry l.values c)) l.initial.row
