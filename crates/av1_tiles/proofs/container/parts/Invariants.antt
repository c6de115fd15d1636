use Rattle.std.proofs.Common.{◌≡◌, ◌≤◌, ◌-◌, ◌^◌, All, length, map, []}
use Rattle.av1_plan.specs.Reading.{input, Moves}
use Rattle.av1_tiles.specs.Grammar.{read_parts}
use Rattle.av1_tiles.proofs.container.parts.Given as goal

abbrev pub invariant-loop : goal.invariant-loop
invariant-loop l = record {
  read : read_parts (l.count - l.counter) (map (λ part. part.now) l.parts.items, input l.reader) ≡ read_parts l.count ([], input l.initial.reader);
  moves : Moves l.initial.reader l.reader;
  count : length l.parts.items ≡ l.counter;
  short : All (λ part. length part.now ≤ 2 ^ 26) l.parts.items;
}
