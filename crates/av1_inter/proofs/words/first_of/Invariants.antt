use Rattle.av1_inter.specs.Motion.{entry}
use Rattle.av1_inter.proofs.Fill.{IsLine}
use Rattle.av1_inter.proofs.words.first_of.Given as goal

abbrev pub invariant-loop-c : goal.invariant-loop-c
invariant-loop-c g l = IsLine g.row.N l.c (entry l.numbers) l.values
