use Rattle.std.proofs.Common.{◌++◌, List, ℕ, ap, sym, subst, ◌∙◌}
use Rattle.av1_planwrite.specs.Builder.{built}
use Rattle.av1_planwrite.specs.Building.{Tells, plan_begun}
use Rattle.av1_planwrite.specs.Text.{header_text}
use Rattle.av1_planwrite.proofs.builder.PlanBuilder.new.Goals as goal

pub returns-clause-begun : goal.returns-clause-begun
returns-clause-begun c =
    let bytes = c.in_ok-header.ensures ∙ ap (λ (bs : List ℕ). bs ++ header_text c.args.header.now) c.new-2.ensures.items in
    ap (λ (bs : List ℕ). built c.in-Some.progress bs) bytes ∙ c.in-Some.ensures.begun

pub returns-clause-told : goal.returns-clause-told
returns-clause-told c =
    let bytes = c.in_ok-header.ensures ∙ ap (λ (bs : List ℕ). bs ++ header_text c.args.header.now) c.new-2.ensures.items in
    subst (λ (bs : List ℕ). Tells (built c.in-Some.progress bs) (plan_begun c.args.header.now)) (sym bytes) c.in-Some.ensures.told

pub invariant_of-result : goal.invariant_of-result
invariant_of-result c =
    let bytes = c.in_ok-header.ensures ∙ ap (λ (bs : List ℕ). bs ++ header_text c.args.header.now) c.new-2.ensures.items in
    let told = subst (λ (bs : List ℕ). Tells (built c.in-Some.progress bs) (plan_begun c.args.header.now)) (sym bytes) c.in-Some.ensures.told in
    record { tells = ∣ (plan_begun c.args.header.now, told) ∣₁ }
