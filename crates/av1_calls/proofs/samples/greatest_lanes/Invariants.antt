use Rattle.av1_calls.specs.Samples.{TakesInRows}
use Rattle.av1_calls.proofs.samples.greatest_lanes.Given as goal

abbrev pub invariant-loop-r : goal.invariant-loop-r
invariant-loop-r l = TakesInRows l.stride l.area l.samples l.r l.lanes
