use Rattle.std.proofs.Common.{◌∙◌, ℕ, Ok, ap, refl, rules}
use Rattle.std.proofs.lemmas.Result.{err_from_is_err_and}
use Rattle.av1_plan.specs.Format.{Input, Reading, lone, field, on_ok}
use Rattle.av1_plan.specs.Grammar.{sample, plane}
use Rattle.av1_plan.proofs.Formats.{fails_on, turn_more, turn_fails, turns_end}
use Rattle.av1_plan.proofs.Lists.{read_empty}
use Rattle.av1_plan.proofs.reader.Reader.plane_by_samples.Goals as goal

pub loop-preserved : goal.loop-preserved
loop-preserved c = record {
  read = turn_more (λ _. lone (field (sample c.args.depth))) (field (sample c.args.depth)) c.args.len c.loop.counter _ _ _ _ _ _ refl c.loop-test.true
      (ap (λ (r : Reading (ℕ × Input)). on_ok r (λ p. Ok p)) c.in_ok-sample.ensures.read) c.in_ok-push.ensures.items c.loop.invariant.read;
  moves = search rules;
}

pub returns-in_err-sample-clause-read : goal.returns-in_err-sample-clause-read
unfolding plane
returns-in_err-sample-clause-read c =
    let p = err_from_is_err_and c.from_residual.result c.from_residual.ensures.1 in
    rw (p.1, p.2, read_empty)
    (turn_fails (λ _. lone (field (sample c.args.depth))) (field (sample c.args.depth)) c.args.len c.loop.counter _ _ _ _ refl c.loop-test.true
    (fails_on _ _ (λ p. Ok p) c.in_err-sample.ensures.read) c.loop.invariant.read)

pub returns-clause-read : goal.returns-clause-read
unfolding plane
returns-clause-read c =
    read_empty _ _ ∙ turns_end (λ _. lone (field (sample c.args.depth))) c.args.len c.loop.counter _ _ c.loop-test.false c.loop.invariant.read
