use Rattle.std.proofs.Common.{◌≡◌, ◌-◌, All, length, map, []}
use Rattle.av1_plan.specs.Reading.{input, Moves}
use Rattle.av1_sequence.specs.File.{IsReadEntry, entry_value}
use Rattle.av1_sequence.specs.Grammar.{read_entries}
use Rattle.av1_sequence.proofs.container.entries.Given as goal

abbrev pub invariant-loop : goal.invariant-loop
invariant-loop l = record {
  read : read_entries l.version (l.count - l.counter) (map entry_value l.entries.items, input l.reader) ≡
      read_entries l.version l.count ([], input l.initial.reader);
  moves : Moves l.initial.reader l.reader;
  count : length l.entries.items ≡ l.counter;
  texts : All IsReadEntry l.entries.items;
}
