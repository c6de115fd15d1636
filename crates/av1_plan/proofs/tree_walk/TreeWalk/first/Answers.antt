use Rattle.std.proofs.Common.{◌≡◌, true, List, length, sym, subst, ◌∙◌, IfSome}
use Rattle.av1_plan.specs.declared.nodes.Part.{Part}
use Rattle.av1_plan.specs.Remaining.{later_parts}
use Rattle.av1_plan.specs.Stacks.{has_room}
use Rattle.av1_plan.proofs.Walks.{none_first}
use Rattle.av1_plan.proofs.tree_walk.TreeWalk.first.Goals as goal

pub returns-in-None-clause-room : goal.returns-in-None-clause-room
returns-in-None-clause-room c =
    subst (λ (ps : List Part). IfSome c.first-in-None.result (λ p. has_room p (length (later_parts ps)) ≡ true))
    (sym (none_first _ (sym c.first.ensures.value ∙ c.in-None.is))) c.first-in-None.ensures.room
