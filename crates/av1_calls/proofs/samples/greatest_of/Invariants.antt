use Rattle.av1_calls.specs.Samples.{IsGreatestOf}
use Rattle.av1_calls.proofs.samples.greatest_of.Given as goal

abbrev pub invariant-loop-r : goal.invariant-loop-r
invariant-loop-r l = IsGreatestOf l.r l.stride l.area l.samples l.greatest
