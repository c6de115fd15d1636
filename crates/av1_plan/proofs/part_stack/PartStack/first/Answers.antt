use Rattle.std.proofs.Common.{◌≡◌, ◌-◌, true, List, length, get_or, subst, arith}
use Rattle.av1_plan.specs.declared.nodes.Part.{Part}
use Rattle.av1_plan.specs.declared.nodes.Part.TheVariants.{Node}
use Rattle.av1_plan.specs.Remaining.{later_parts}
use Rattle.av1_plan.specs.Stacks.{has_room}
use Rattle.av1_plan.proofs.Stacks.{top_with_room}
use Rattle.av1_plan.proofs.part_stack.PartStack.first.Goals as goal

pub returns-else-self-eq0-clause-room : goal.returns-else-self-eq0-clause-room
returns-else-self-eq0-clause-room c =
    let s = c.self.inside in
    subst (λ (ps : List Part). has_room (get_or s.parts (s.count - 1) (Node 0 0 0)) (length (later_parts ps)) ≡ true) c.self.view_is
    (top_with_room s.parts s.count (Node 0 0 0) (omega (arith, c.if-self-eq0.false)) (omega (arith, c.self.invariant.0, c.self.invariant.1)) c.self.invariant.2)
