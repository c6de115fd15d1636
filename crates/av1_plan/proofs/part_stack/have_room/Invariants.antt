use Rattle.std.proofs.Common.{◌≡◌}
use Rattle.av1_plan.specs.Stacks.{on_top, have_room}
use Rattle.av1_plan.proofs.part_stack.have_room.Given as goal

abbrev pub invariant-loop-below : goal.invariant-loop-below
invariant-loop-below l = l.room ≡ have_room (on_top l.parts l.below)
