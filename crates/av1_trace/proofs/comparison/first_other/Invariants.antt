use Rattle.av1_plan.specs.Values.{plan_value}
use Rattle.av1_trace.proofs.Comparing.{AgreeAbove}
use Rattle.av1_trace.proofs.comparison.first_other.Given as goal

abbrev pub invariant-loop-y : goal.invariant-loop-y
invariant-loop-y g l = AgreeAbove (plan_value l.plan) l.planes l.p l.left l.right l.top l.y
