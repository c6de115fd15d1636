use Rattle.std.proofs.Common.{rules, ◌≡◌, ◌++◌, List, ℕ, ap, sym, subst, ◌∙◌}
use Rattle.std.specs.Prelude.{OnOk}
use Rattle.std.proofs.Math.Logic.{∥∥₁_map}
use Rattle.av1_plan.specs.Plan.{PlanValue}
use Rattle.av1_planwrite.specs.Builder.{built}
use Rattle.av1_planwrite.specs.Building.{Tells, plan_with_reference}
use Rattle.av1_planwrite.specs.Held.{building}
use Rattle.av1_planwrite.specs.Text.{plane_text}
use Rattle.av1_planwrite.proofs.BuilderParts.{still, written_well}
use Rattle.av1_planwrite.proofs.builder.PlanBuilder.reference.Goals.{After-pass_reference}
use Rattle.av1_planwrite.proofs.builder.PlanBuilder.reference.Goals as goal

-- the fields of the planes
abbrev texts : After-pass_reference → List ℕ
texts c =
    let depth = c.args.self.now.progress.walk.header.depth in
    plane_text depth c.args.y.now ++ plane_text depth c.args.u.now ++ plane_text depth c.args.v.now

-- what was written are these
written : (c : After-pass_reference) → c.settle.new.self.bytes.items ≡ c.args.self.now.text.bytes.items ++ texts c
written c =
    let w = c.planes-written in
    let old = c.args.self.now.text.bytes.items in
    let text =
    subst (λ (depth : ℕ). OnOk w.result
    (w.new.self.bytes.items ≡ old ++ (plane_text depth c.args.y.now ++ plane_text depth c.args.u.now ++ plane_text depth c.args.v.now))) c.depth.ensures
    w.ensures.text in
    c.in_ok-settle.ensures.kept
    ∙ written_well (w.new.self.bytes.items ≡ old ++ texts c) w.result _ c.settle.result _ c.in_ok-settle.was c.settle.ensures.answer text

told : (c : After-pass_reference) (p : PlanValue) → Tells (building c.args.self.now) p →
    Tells (built c.pass_reference.new.self c.settle.new.self.bytes.items) (plan_with_reference p c.args.y.now c.args.u.now c.args.v.now)
told c p t =
    subst (λ (bytes : List ℕ). Tells (built c.pass_reference.new.self bytes) (plan_with_reference p c.args.y.now c.args.u.now c.args.v.now)) (sym (written c))
    (c.pass_reference.ensures.told c.args.self.now.text.bytes.items c.args.y.now c.args.u.now c.args.v.now p t c.in_ok-check_reference.ensures.admitted)

pub returns-clause-given : goal.returns-clause-given
returns-clause-given c =
    ap (λ (bytes : List ℕ). built c.pass_reference.new.self bytes) (written (goal.at.returns-clause-given c).After-pass_reference)
    ∙ c.pass_reference.ensures.given c.args.self.now.text.bytes.items c.args.y.now c.args.u.now c.args.v.now

pub returns-clause-told : goal.returns-clause-told
returns-clause-told c = told (goal.at.returns-clause-told c).After-pass_reference

pub invariant_of-self-in-Break-branch-2 : goal.invariant_of-self-in-Break-branch-2
invariant_of-self-in-Break-branch-2 c = still c.args.self.now (search rules)

pub invariant_of-self-2 : goal.invariant_of-self-2
invariant_of-self-2 c =
    record { tells = ∥∥₁_map c.args.self.now.tells (λ t. (plan_with_reference t.0 c.args.y.now c.args.u.now c.args.v.now, told c t.0 t.1)) }
