use Rattle.std.proofs.Common.{◌&&◌, Bool, sym, ap, ◌∙◌, arith}
use Rattle.av1_plan.specs.declared.nodes.Part.TheVariants.{Node}
use Rattle.av1_plan.specs.Stacks.{on_top, have_room}
use Rattle.av1_plan.proofs.Stacks.{none_on_top, room_more}
use Rattle.av1_plan.proofs.part_stack.have_room.Goals as goal
use Rattle.av1_plan.proofs.part_stack.have_room.Goals.{then-has_room, else-has_room}

pub loop-below-init : goal.loop-below-init
loop-below-init c = sym (none_on_top c.args.parts.now)

pub loop-below-preserved : goal.loop-below-preserved
loop-below-preserved c =
    let parts = c.args.parts.now in
    let n = c.loop-below.below in
    let more = room_more parts n (Node 0 0 0) (omega arith) in
    let below : Bool = have_room (on_top parts n) in
    elim c.if-has_room.branch [
      | then-has_room w ↦ w.room-is ∙ c.loop-below.invariant ∙ sym (more ∙ ap (λ (b : Bool). b && below) (sym c.has_room.ensures ∙ w.if-has_room.true))
      | else-has_room w ↦ w.room-is ∙ w.if-has_room.false ∙ sym (more ∙ ap (λ (b : Bool). b && below) (sym c.has_room.ensures ∙ w.if-has_room.false))
    ]
