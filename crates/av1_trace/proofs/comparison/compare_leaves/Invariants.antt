use Rattle.std.proofs.Common.{◌≡◌, take}
use Rattle.av1_plan.specs.Values.{plan_value}
use Rattle.av1_trace.specs.Differences.{leaves_differences}
use Rattle.av1_trace.proofs.comparison.compare_leaves.Given as goal

abbrev pub invariant-loop-n : goal.invariant-loop-n
invariant-loop-n g l = l.list.items ≡ leaves_differences (plan_value l.plan) l.planes 0 (take l.n (plan_value l.plan).leaves)
