use Rattle.std.proofs.Common.{◌≡◌, arith, Ok}
use Rattle.av1_plan.specs.Format.{start, read_all}
use Rattle.av1_plan.specs.Grammar.{plan, plan_behind}
use Rattle.av1_plan.specs.Plan.{value_of}
use Rattle.av1_plan.proofs.Answers.{is_spelled}
use Rattle.av1_plan.proofs.Lists.{collects}
use Rattle.av1_plan.proofs.parse.read_plan.Goals as goal

pub invariant_of-result-clause-spelled : goal.invariant_of-result-clause-spelled
unfolding plan plan_behind
invariant_of-result-clause-spelled c =
    let e : read_all plan (start c.args.bytes.now) ≡
    Ok (value_of c.in_ok-header.header c.in_ok-references.references.items c.in_ok-leaves.leaves.leaves.items c.in_ok-leaves.leaves.triples.items) =
    grind (arith, collects) in
    ∣ is_spelled plan c.args.bytes.now _ (λ i. omega (arith, c.type_inv.bytes i)) e ∣₁
