use Rattle.std.proofs.Common.{arith, ◌≡◌, ◌<◌, ap, ◌∙◌, get_or, inl, inr, pos, subst, sym}
use Rattle.std.proofs.lemmas.Bool.{cases_lt}
use Rattle.std.proofs.lemmas.List.{get_or_default}
use Rattle.av1_plan.specs.declared.leaf.Triple.{Triple}
use Rattle.av1_tile.proofs.coefficients.coefficients_up_to.Goals as goal

pub loop-triple-preserved : goal.loop-triple-preserved
loop-triple-preserved c =
    let d : Triple = record { block = 0; place = 0; value = pos 0 } in
    let l = c.loop-triple in
    let ts = c.args.triples.now in
    let t : Triple = get_or ts l.triple-index d in
    let here : t.place < c.greater-count.result = omega arith in (
      λ k e h. elim (cases_lt k l.triple-index) [
        | inl below ↦ (let old = l.invariant.0 k e below in omega (arith, old))
        | inr past ↦ (let same : k ≡ l.triple-index = omega arith in
            let is : get_or ts k e ≡ t = ap (λ n. get_or ts n e) same ∙ get_or_default ts l.triple-index e d c.loop-triple-test.true in
            subst (λ (x : Triple). x.place < c.greater-count.result) (sym is) here)
      ],
      λ n all. let place = all l.triple-index d c.loop-triple-test.true in let before = l.invariant.1 n all in
          c.greater-count.ensures.least n before (omega (arith, place)),
    )

pub returns-clause-reach : goal.returns-clause-reach
returns-clause-reach c = λ k d h. c.loop-triple.invariant.0 k d (omega arith)
