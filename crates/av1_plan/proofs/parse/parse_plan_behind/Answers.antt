use Rattle.std.proofs.Common.{arith}
use Rattle.av1_plan.specs.Values.{leaves_value}
use Rattle.av1_plan.specs.Plan.{slot_values}
use Rattle.av1_plan.proofs.Behind.{behind_spelled, behind_text, only_plan, passed_only, passed_refusal}
use Rattle.av1_plan.proofs.Composed.{plan_spelled, stored_present}
use Rattle.av1_plan.proofs.parse.parse_plan_behind.Goals as goal

pub returns-in_err-leaves-clause-refused : goal.returns-in_err-leaves-clause-refused
returns-in_err-leaves-clause-refused c =
    passed_refusal c.args.header (slot_values c.args.references.items) c.args.bytes.now c.from_residual.result c.in_err-leaves.field-0.0
    c.from_residual.ensures.1 c.in_err-leaves.ensures.refused

pub returns-in_err-leaves-clause-only : goal.returns-in_err-leaves-clause-only
returns-in_err-leaves-clause-only c =
    passed_only c.args.header (slot_values c.args.references.items) c.args.bytes.now c.from_residual.result c.in_err-leaves.field-0.0
    c.from_residual.ensures.1 c.in_err-leaves.ensures.only

pub invariant_of-result-clause-spelled : goal.invariant_of-result-clause-spelled
invariant_of-result-clause-spelled c =
    let stored = c.args.references.items in
    ∣ plan_spelled c.args.header stored _ c.requires.frame (omega (arith, c.requires.eight)) c.requires.slots
    (behind_spelled c.args.header (slot_values stored) c.args.bytes.now (leaves_value c.in_ok-leaves.leaves) c.in_ok-leaves.ensures.found) ∣₁

pub invariant_of-result-clause-present : goal.invariant_of-result-clause-present
invariant_of-result-clause-present c = stored_present c.args.header c.args.references.items 8 c.requires.slots

pub returns-clause-found : goal.returns-clause-found
returns-clause-found c =
    behind_text c.args.header (slot_values c.args.references.items) c.args.bytes.now (leaves_value c.in_ok-leaves.leaves) c.in_ok-leaves.ensures.found

pub returns-clause-only : goal.returns-clause-only
returns-clause-only c =
    only_plan c.args.header (slot_values c.args.references.items) c.args.bytes.now (leaves_value c.in_ok-leaves.leaves) c.in_ok-leaves.ensures.only
