-- The text of a plan in memory spells it.
use Rattle.std.proofs.Common.{◌≡◌, List, ℕ, refl, sym, subst}
use Rattle.std.proofs.Math.Logic.{∥∥₁_map}
use Rattle.av1_plan.specs.declared.plan.Plan.{Plan}
use Rattle.av1_plan.specs.Values.{plan_value}
use Rattle.av1_plan.specs.Grammar.{plan}
use Rattle.av1_plan.specs.Plan.{PlanValue}
use Rattle.av1_plan.specs.Spelling.{IsSpelled, AreText, text}
use Rattle.av1_planwrite.specs.Bare.{bare, bare_text}
use Rattle.av1_planwrite.specs.Text.{plan_text}
use Rattle.av1_planwrite.proofs.BarePlans.{bare_is_plan}
use Rattle.av1_planwrite.proofs.PlanTexts.{plan_told}

spells : (p : PlanValue) → IsSpelled plan p → AreText plan (plan_text p) p
spells p s = (s.values, s.spells, sym (plan_told (text plan s.values) p (s.values, s.spells, refl)))

pub text_spelled : (p : Plan) (bytes : List ℕ) → bytes ≡ plan_text (plan_value p) → ∥ AreText plan bytes (plan_value p) ∥₁
text_spelled p bytes e = subst (λ (bytes : List ℕ). ∥ AreText plan bytes (plan_value p) ∥₁) (sym e) (∥∥₁_map p.spelled (spells (plan_value p)))

pub bare_text_spelled : (p : Plan) (bytes : List ℕ) → bytes ≡ bare_text (plan_value p) → ∥ AreText plan bytes (bare (plan_value p)) ∥₁
bare_text_spelled p bytes e =
    subst (λ (bytes : List ℕ). ∥ AreText plan bytes (bare (plan_value p)) ∥₁) (sym e)
    (∥∥₁_map p.spelled (λ (s : IsSpelled plan (plan_value p)). bare_is_plan (plan_text (plan_value p)) (plan_value p) (spells (plan_value p) s)))

pub ruleset written = (text_spelled, bare_text_spelled)
