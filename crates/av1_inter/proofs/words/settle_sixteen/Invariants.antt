use Rattle.av1_inter.specs.Motion.{entry}
use Rattle.av1_inter.specs.Scaffolding.{settled}
use Rattle.av1_inter.proofs.Fill.{IsLine}
use Rattle.av1_inter.proofs.words.settle_sixteen.Given as goal

abbrev pub invariant-loop-c : goal.invariant-loop-c
invariant-loop-c l = IsLine 16 l.c (λ k. settled l.rounding (entry l.sums k)) l.values
