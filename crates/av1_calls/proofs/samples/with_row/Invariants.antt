use Rattle.std.proofs.Common.{◌*◌}
use Rattle.av1_calls.specs.Samples.{TakesIn}
use Rattle.av1_calls.proofs.samples.with_row.Given as goal

abbrev pub invariant-loop-k : goal.invariant-loop-k
invariant-loop-k l = TakesIn l.samples l.start (8 * l.k) l.fn.greatest l.lanes
