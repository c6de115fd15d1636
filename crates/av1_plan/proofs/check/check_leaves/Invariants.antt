use Rattle.std.proofs.Common.{◌≡◌, drop}
use Rattle.av1_plan.specs.Values.{leaves_value}
use Rattle.av1_plan.specs.Validity.{fault_from}
use Rattle.av1_plan.proofs.check.check_leaves.Given as goal

abbrev pub invariant-loop-i : goal.invariant-loop-i
invariant-loop-i l = fault_from l.header l.i (drop l.i (leaves_value l.leaves)) ≡ fault_from l.header 0 (leaves_value l.leaves)
