use Rattle.av1_trace.proofs.Counting.{few_differences}
use Rattle.av1_trace.proofs.trace.trace_differences.Goals as goal

pub returns-clause-few : goal.returns-clause-few
returns-clause-few c = few_differences c.in_ok-trace.trace.plan c.in_ok-trace.trace.planes.now c.in_ok-compare.field-0.items c.in_ok-compare.ensures.differences
