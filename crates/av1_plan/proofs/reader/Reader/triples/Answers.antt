use Rattle.std.proofs.lemmas.Result.{err_from_is_err_and}
use Rattle.av1_plan.specs.Format.{lone, in_turn, read}
use Rattle.av1_plan.specs.Grammar.{triple, triples}
use Rattle.av1_plan.proofs.Formats.{fails_on, fails_back}
use Rattle.av1_plan.proofs.Triples.{add_back}
use Rattle.av1_plan.proofs.reader.Reader.triples.Goals as goal

pub returns-in_err-count-clause-read : goal.returns-in_err-count-clause-read
unfolding triples
returns-in_err-count-clause-read c =
    let p = err_from_is_err_and c.from_residual.result c.from_residual.ensures.1 in
    rw (p.1, p.2) (fails_on _ _ (λ q. read (in_turn (λ _. lone triple) 0 q.0) q.1) c.in_err-count.ensures.read)

pub returns-in_err-more_triples-clause-read : goal.returns-in_err-more_triples-clause-read
unfolding triples
returns-in_err-more_triples-clause-read c =
    let r = c.from_residual-in_err-more_triples in
    let p = err_from_is_err_and r.result r.ensures.1 in
    rw (p.1, p.2, c.in_ok-count.ensures.read)
    (fails_back _ (in_turn (λ _. lone triple) 0 c.in_ok-count.count) c.args.into.now.items _ c.in_err-more_triples.ensures.read)

pub returns-clause-read : goal.returns-clause-read
unfolding triples
returns-clause-read c =
    let b = add_back (in_turn (λ _. lone triple) 0 c.in_ok-count.count) _ _ _ _ _ c.in_ok-more_triples.ensures.read c.in_ok-more_triples.ensures.count in
    rw (c.in_ok-count.ensures.read) b.given

pub returns-clause-extends : goal.returns-clause-extends
returns-clause-extends c =
    (add_back (in_turn (λ _. lone triple) 0 c.in_ok-count.count) _ _ _ _ _ c.in_ok-more_triples.ensures.read c.in_ok-more_triples.ensures.count).extends
