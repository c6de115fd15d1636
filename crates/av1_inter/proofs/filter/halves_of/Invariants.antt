use Rattle.std.specs.Int.{int_shr}
use Rattle.av1_inter.specs.Motion.{entry}
use Rattle.av1_inter.proofs.Fill.{IsLine}
use Rattle.av1_inter.proofs.filter.halves_of.Given as goal

abbrev pub invariant-loop-t : goal.invariant-loop-t
invariant-loop-t l = IsLine 8 l.t (λ k. int_shr (entry l.taps k) 1) l.halves
