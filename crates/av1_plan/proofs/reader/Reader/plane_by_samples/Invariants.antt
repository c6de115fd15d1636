use Rattle.std.proofs.Common.{◌≡◌, ◌-◌, []}
use Rattle.av1_plan.specs.Format.{add, in_turn, lone, field}
use Rattle.av1_plan.specs.Grammar.{sample}
use Rattle.av1_plan.specs.Reading.{input, Moves}
use Rattle.av1_plan.proofs.reader.Reader.plane_by_samples.Given as goal

abbrev pub invariant-loop : goal.invariant-loop
invariant-loop l = record {
  read : add (in_turn (λ _. lone (field (sample l.depth))) l.counter (l.len - l.counter)) (l.samples.items, input l.self) ≡
      add (in_turn (λ _. lone (field (sample l.depth))) 0 l.len) ([], input l.initial.self);
  moves : Moves l.initial.self l.self;
}
