use Rattle.std.proofs.Common.{◌≡◌, slice_index_or}
use Rattle.av1_frame.specs.Samples.{paint_row}
use Rattle.av1_inter.proofs.copies.copy_each.Given as goal

abbrev pub invariant-loop-c : goal.invariant-loop-c
invariant-loop-c g l = l.row ≡ paint_row l.c (λ c v. slice_index_or l.source c v) l.initial.row
