use Rattle.std.proofs.Common.{◌≡◌}
use Rattle.av1_planwrite.specs.Building.{next_slot}
use Rattle.av1_planwrite.proofs.progress.next_slot.Given as goal

abbrev pub invariant-loop-slot : goal.invariant-loop-slot
invariant-loop-slot l = next_slot l.header l.slot ≡ next_slot l.header l.from
