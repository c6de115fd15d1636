use Rattle.std.proofs.Common.{◌≡◌, ◌-◌, [], length}
use Rattle.av1_plan.specs.Format.{add, in_turn, lone}
use Rattle.av1_plan.specs.Grammar.{slot_planes}
use Rattle.av1_plan.specs.Plan.{slot_values, ArePresent}
use Rattle.av1_plan.specs.Reading.{input, Moves}
use Rattle.av1_plan.proofs.reader.Reader.references.Given as goal

abbrev pub invariant-loop-slot : goal.invariant-loop-slot
invariant-loop-slot l = record {
  read : add (in_turn (λ slot. lone (slot_planes l.header slot)) l.slot (8 - l.slot)) (slot_values l.slots.items, input l.self) ≡
      add (in_turn (λ slot. lone (slot_planes l.header slot)) 0 8) ([], input l.initial.self);
  moves : Moves l.initial.self l.self;
  count : length l.slots.items ≡ l.slot;
  present : ArePresent l.header l.slots.items l.slot;
}
