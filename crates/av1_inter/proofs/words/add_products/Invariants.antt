use Rattle.std.proofs.Common.{◌≡◌, ◌+ℤ◌, length}
use Rattle.av1_inter.specs.Motion.{entry}
use Rattle.av1_inter.proofs.Fill.{IsDone}
use Rattle.av1_inter.proofs.words.add_products.Given as goal

abbrev pub invariant-loop-c : goal.invariant-loop-c
invariant-loop-c g l = IsDone l.c (λ k. entry l.initial.sums k +ℤ entry l.products k) l.initial.sums l.sums × (length l.sums ≡ g.row.L)
