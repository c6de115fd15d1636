use Rattle.std.proofs.Common.{◌≡◌, ◌-◌, ◌+◌, ◌≤◌, length}
use Rattle.av1_plan.specs.Format.{add, in_turn, lone}
use Rattle.av1_plan.specs.Grammar.{triple}
use Rattle.av1_plan.specs.Reading.{input, Moves}
use Rattle.av1_plan.proofs.reader.Reader.more_triples.Given as goal

abbrev pub invariant-loop : goal.invariant-loop
invariant-loop l = record {
  read : add (in_turn (λ _. lone triple) l.counter (l.count - l.counter)) (l.into.items, input l.self) ≡ add (in_turn (λ _. lone triple) 0 l.count)
      (l.initial.into.items, input l.initial.self);
  moves : Moves l.initial.self l.self;
  count : length l.into.items ≡ length l.initial.into.items + l.counter;
  room : length l.into.items + l.initial.self.at ≤ length l.initial.into.items + l.self.at;
}
