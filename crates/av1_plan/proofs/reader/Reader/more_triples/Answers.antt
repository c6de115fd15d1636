use Rattle.std.proofs.Common.{refl, rules}
use Rattle.std.proofs.lemmas.Result.{err_from_is_err_and}
use Rattle.av1_plan.specs.Format.{lone}
use Rattle.av1_plan.specs.Grammar.{triple}
use Rattle.av1_plan.proofs.Formats.{turn_more, turn_fails, turns_end}
use Rattle.av1_plan.proofs.reader.Reader.more_triples.Goals as goal

pub loop-preserved : goal.loop-preserved
loop-preserved c = record {
  read = turn_more (λ _. lone triple) triple c.args.count c.loop.counter _ _ _ _ _ _ refl c.loop-test.true c.in_ok-triple.ensures.read
      c.in_ok-push.ensures.items c.loop.invariant.read;
  moves = search rules;
  count = search rules;
  room = search rules;
}

pub returns-in_err-triple-clause-read : goal.returns-in_err-triple-clause-read
returns-in_err-triple-clause-read c =
    let p = err_from_is_err_and c.from_residual.result c.from_residual.ensures.1 in
    rw (p.1, p.2)
    (turn_fails (λ _. lone triple) triple c.args.count c.loop.counter _ _ _ _ refl c.loop-test.true c.in_err-triple.ensures.read c.loop.invariant.read)

pub returns-clause-read : goal.returns-clause-read
returns-clause-read c = turns_end (λ _. lone triple) c.args.count c.loop.counter _ _ c.loop-test.false c.loop.invariant.read
