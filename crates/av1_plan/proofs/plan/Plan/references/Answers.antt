use Rattle.std.proofs.Common.{sym, subst, List, Option}
use Rattle.av1_plan.specs.declared.planes.SlotPlanes.{SlotPlanes}
use Rattle.av1_plan.specs.ReadPlans.{AreStoredSlots}
use Rattle.av1_plan.proofs.ReadPlans.{stored_slots}
use Rattle.av1_plan.proofs.plan.Plan.references.Goals as goal

pub returns-clause-slots : goal.returns-clause-slots
returns-clause-slots c =
    let p = c.args.self.now in
    subst (λ (slots : List (Option SlotPlanes)). AreStoredSlots p.header slots 8) (sym c.deref.ensures.value) (stored_slots p)
