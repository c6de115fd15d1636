use Rattle.std.proofs.Common.{rules, arith, refl, inl, inr}
use Rattle.std.proofs.lemmas.Grind.{common_steps}
use Rattle.av1_streams.proofs.sink.MemSinkSink.write.Goals.{then-count-eq0-via-then-count-eq0, then-count-eq0-via-else-count-eq0+then-contains}
use Rattle.av1_streams.proofs.sink.MemSinkSink.write.Goals as goal

pub returns-then-count-eq0-clause-numbered : goal.returns-then-count-eq0-clause-numbered
returns-then-count-eq0-clause-numbered c = elim c.then-count-eq0.branch [
  | then-count-eq0-via-then-count-eq0 w ↦ (λ _. inr (grind (arith, common_steps)), λ _. refl)
  | then-count-eq0-via-else-count-eq0+then-contains w ↦ (λ _. inl (search rules), λ _. refl)
]
