use Rattle.std.proofs.Common.{◌≡◌}
use Rattle.av1_frame.specs.Samples.{paint_row}
use Rattle.av1_frame.proofs.rows.fill_row.Given as goal

abbrev pub invariant-loop-c : goal.invariant-loop-c
invariant-loop-c g l = l.row ≡ paint_row l.c (λ _ _. l.value) l.initial.row
