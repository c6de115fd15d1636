use Rattle.std.proofs.Common.{◌∙◌, ap, length, subst, sym}
use Rattle.std.proofs.lemmas.Result.{IfOk-weaker}
use Rattle.av1_plan.specs.Values.{plan_value}
use Rattle.av1_plan.specs.declared.header.Header.{Header}
use Rattle.av1_trace.specs.Differences.{differences}
use Rattle.av1_trace.specs.Samples.{planes_len}
use Rattle.av1_c.specs.TraceCalls.{AreGiven, given_of, planes_in}
use Rattle.av1_c.proofs.TraceCalls.{planes_long}
use Rattle.av1_c.proofs.differences.compare_given.Goals as goal

pub gathered-requires-clause-given : goal.gathered-requires-clause-given
gathered-requires-clause-given c =
    let g = given_of c.args.planes in
    subst (λ (h : Header). AreGiven h g) (sym c.header.ensures.value) c.requires.given

pub compare-requires-clause-whole : goal.compare-requires-clause-whole
compare-requires-clause-whole c =
    let g = given_of c.args.planes in
    let are = subst (λ (h : Header). AreGiven h g) (sym c.header.ensures.value) c.requires.given in
    ap length (c.deref.ensures.value ∙ c.in_ok-rows.ensures) ∙ planes_long c.header.result.now g are ∙ ap planes_len c.header.ensures.value

pub returns : goal.returns
returns c =
    let g = given_of c.args.planes in
    let value = plan_value c.args.plan.now in
    let rows = c.deref.ensures.value ∙ c.in_ok-rows.ensures ∙ ap (λ (h : Header). planes_in h g) c.header.ensures.value in
    IfOk-weaker c.compare.result _ _ (λ list is. is ∙ ap (differences value) rows) c.compare.ensures.differences
