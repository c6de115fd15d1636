use Rattle.std.proofs.Common.{rules, ◌≡◌, ◌++◌, List, ℕ, true, sym, ap, subst, ◌∙◌, All}
use Rattle.std.specs.Prelude.{is_some}
use Rattle.std.proofs.Math.Logic.{∥∥₁_map}
use Rattle.av1_plan.specs.Plan.{PlanValue}
use Rattle.av1_planwrite.specs.Builder.{built}
use Rattle.av1_planwrite.specs.Held.{building}
use Rattle.av1_planwrite.specs.Building.{Building, LeafFields, Tells, asked_part, plan_with_leaf, with_leaf}
use Rattle.av1_planwrite.specs.Given.{FitsTriple}
use Rattle.av1_planwrite.specs.Text.{fields_text}
use Rattle.av1_planwrite.proofs.BuilderParts.{still, written_well}
use Rattle.av1_planwrite.proofs.Telling.{leaf_tells}
use Rattle.av1_planwrite.proofs.builder.PlanBuilder.leaf.Goals.{After-pass_leaf}
use Rattle.av1_planwrite.proofs.builder.PlanBuilder.leaf.Goals as goal

-- the leaf that is given
abbrev fields : After-pass_leaf → LeafFields
fields c = record {
  kind = c.args.kind.now;
  tx_size = c.args.tx_size;
  tx_type = c.args.tx_type;
  uv_type = c.args.uv_type;
  y = c.args.y.now;
  u = c.args.u.now;
  v = c.args.v.now;
}

given : (c : After-pass_leaf) → built c.pass_leaf.new.self c.settle.new.self.bytes.items ≡ with_leaf (building c.args.self.now) (fields c)
given c =
    let items = c.args.self.now.text.bytes.items in
    let l = fields c in
    let w = c.leaf-written in
    let written =
    written_well (w.new.self.bytes.items ≡ items ++ fields_text l.kind l.tx_size l.tx_type l.uv_type l.y l.u l.v) w.result _ c.settle.result _
    c.in_ok-settle.was c.settle.ensures.answer w.ensures.text in
    ap (λ (bytes : List ℕ). built c.pass_leaf.new.self bytes) (c.in_ok-settle.ensures.kept ∙ written) ∙ c.pass_leaf.ensures items l

told : (c : After-pass_leaf) (p : PlanValue) → Tells (building c.args.self.now) p →
    Tells (built c.pass_leaf.new.self c.settle.new.self.bytes.items) (plan_with_leaf p (asked_part (building c.args.self.now)) (fields c))
told c p t =
    let s = c.args.self.now in
    let l = fields c in
    let w = c.leaf-written in
    let y_fit = written_well (All FitsTriple l.y) w.result _ c.settle.result _ c.in_ok-settle.was c.settle.ensures.answer w.ensures.y_fit in
    let u_fit =
    written_well (is_some l.uv_type ≡ true → All FitsTriple l.u) w.result _ c.settle.result _ c.in_ok-settle.was c.settle.ensures.answer w.ensures.u_fit in
    let v_fit =
    written_well (is_some l.uv_type ≡ true → All FitsTriple l.v) w.result _ c.settle.result _ c.in_ok-settle.was c.settle.ensures.answer w.ensures.v_fit in
    let k = c.in_ok-check_leaf.ensures in
    subst (λ (b : Building). Tells b (plan_with_leaf p (asked_part (building s)) l)) (sym (given c))
    (leaf_tells (building s) p l t k.asked k.admitted k.fits y_fit u_fit v_fit)

pub returns-clause-given : goal.returns-clause-given
returns-clause-given c = given (goal.at.returns-clause-given c).After-pass_leaf

pub returns-clause-told : goal.returns-clause-told
returns-clause-told c = told (goal.at.returns-clause-told c).After-pass_leaf

pub invariant_of-self : goal.invariant_of-self
invariant_of-self c = still c.args.self.now (search rules)

pub invariant_of-self-2 : goal.invariant_of-self-2
invariant_of-self-2 c =
    record { tells = ∥∥₁_map c.args.self.now.tells (λ t. (plan_with_leaf t.0 (asked_part (building c.args.self.now)) (fields c), told c t.0 t.1)) }
