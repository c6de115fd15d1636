use Rattle.std.proofs.Common.{sym, subst, List, Option, ℕ, IfOk}
use Rattle.std.proofs.lemmas.Result.{IfOk-weaker}
use Rattle.av1_plan.specs.declared.header.Header.{Header}
use Rattle.av1_plan.specs.Plan.{slot_values}
use Rattle.av1_plan.specs.ReadPlans.{AreStoredSlots, IsReadFrame}
use Rattle.av1_plan.specs.Values.{plan_value}
use Rattle.av1_tile.specs.Motion.{HoldsReferences, frame_with}
use Rattle.av1_tile.proofs.FilledSlots.{holds_plan}
use Rattle.av1_tile.proofs.slots.frame_invariants.Goals as goal

pub stored_references-requires-clause-slots : goal.stored_references-requires-clause-slots
stored_references-requires-clause-slots g c =
    subst (λ (h : Header). AreStoredSlots h c.references.result.now 8) (sym c.header.ensures.value) c.references.ensures.slots

pub returns : goal.returns
returns g c =
    let num = g.T.Pixel.num in
    let value = plan_value c.args.plan.now in
    IfOk-weaker c.stored_references.result _ _ (λ fi holds. holds_plan num value fi holds)
    (subst (λ (references : List (Option (List (List ℕ)))). IfOk c.stored_references.result (HoldsReferences num (frame_with value.header references)))
    c.references.ensures.value
    (subst (λ (h : Header). IfOk c.stored_references.result (HoldsReferences num (frame_with h (slot_values c.references.result.now))))
    c.header.ensures.value c.stored_references.ensures))
