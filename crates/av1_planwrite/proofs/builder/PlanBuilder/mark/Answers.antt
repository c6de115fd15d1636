use Rattle.std.proofs.Common.{rules, ◌≡◌, ◌++◌, List, ℕ, ap, sym, subst, ◌∙◌}
use Rattle.std.proofs.Math.Logic.{∥∥₁_map}
use Rattle.av1_plan.specs.Plan.{PlanValue}
use Rattle.av1_planwrite.specs.Builder.{built}
use Rattle.av1_planwrite.specs.Building.{Tells}
use Rattle.av1_planwrite.specs.Held.{building}
use Rattle.av1_planwrite.specs.Text.{byte}
use Rattle.av1_planwrite.proofs.BuilderParts.{still, written_well}
use Rattle.av1_planwrite.proofs.builder.PlanBuilder.mark.Goals.{After-pass_mark}
use Rattle.av1_planwrite.proofs.builder.PlanBuilder.mark.Goals as goal

-- what was written is the mark
written : (c : After-pass_mark) → c.settle.new.self.bytes.items ≡ c.args.self.now.text.bytes.items ++ byte c.args.mark
written c =
    let w = c.byte-written in
    c.in_ok-settle.ensures.kept
    ∙ written_well (w.new.self.bytes.items ≡ c.args.self.now.text.bytes.items ++ byte c.args.mark) w.result _ c.settle.result _ c.in_ok-settle.was
    c.settle.ensures.answer w.ensures.text

told : (c : After-pass_mark) (p : PlanValue) → Tells (building c.args.self.now) p → Tells (built c.pass_mark.new.self c.settle.new.self.bytes.items) p
told c p t =
    subst (λ (bytes : List ℕ). Tells (built c.pass_mark.new.self bytes) p) (sym (written c)) (c.pass_mark.ensures.told c.args.self.now.text.bytes.items p t)

pub returns-clause-given : goal.returns-clause-given
returns-clause-given c =
    ap (λ (bytes : List ℕ). built c.pass_mark.new.self bytes) (written (goal.at.returns-clause-given c).After-pass_mark)
    ∙ c.pass_mark.ensures.given c.args.self.now.text.bytes.items

pub returns-clause-told : goal.returns-clause-told
returns-clause-told c = told (goal.at.returns-clause-told c).After-pass_mark

pub invariant_of-self : goal.invariant_of-self
invariant_of-self c = still c.args.self.now (search rules)

pub invariant_of-self-2 : goal.invariant_of-self-2
invariant_of-self-2 c = record { tells = ∥∥₁_map c.args.self.now.tells (λ t. (t.0, told c t.0 t.1)) }
