use Rattle.std.proofs.Common.{◌≡◌, ◌++◌, take}
use Rattle.std.specs.List.{flat_map}
use Rattle.av1_plan.specs.Values.{plan_value}
use Rattle.av1_planwrite.specs.Text.{slot_text}
use Rattle.av1_planwrite.proofs.text.Text.references.Given as goal

abbrev pub invariant-loop-slot : goal.invariant-loop-slot
invariant-loop-slot l =
    l.self.bytes.items ≡ l.initial.self.bytes.items ++ flat_map (slot_text (plan_value l.plan).header.depth) (take l.slot (plan_value l.plan).references)
