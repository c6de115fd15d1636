use Rattle.av1_calls.proofs.Limits.{AreLimits}
use Rattle.av1_calls.proofs.transform_add.all_fit.Given as goal

abbrev pub invariant-loop-i : goal.invariant-loop-i
invariant-loop-i l = AreLimits l.bits l.i l.numbers l.least l.greatest
