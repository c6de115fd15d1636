use Rattle.std.proofs.Common.{◌≡◌, [], ◌&&◌, Bool, length, refl, sym, subst, ◌∙◌, true, arith}
use Rattle.av1_planwrite.specs.Builder.{built}
use Rattle.av1_planwrite.specs.Building.{Building, Tells, admits_leaf, admits_leaf_fields, asked_part, asks_leaf, plan_with_leaf, with_leaf}
use Rattle.av1_planwrite.specs.States.{stopped}
use Rattle.av1_planwrite.proofs.BuilderParts.{other_bytes}
use Rattle.av1_planwrite.proofs.Telling.{leaf_tells}
use Rattle.av1_c.specs.Builders.{header_of, is_builder, plan_of, state_of}
use Rattle.av1_c.specs.Leaves.{are_numbers, fields_of, kind_of, leaf_bytes, uv_type_of}
use Rattle.av1_c.proofs.Builds.{done_status, held, more_bytes}
use Rattle.av1_c.proofs.LeafBytes.{admitted_by_counts}
use Rattle.av1_c.proofs.build_leaf.give_leaf.Goals as goal

pub returns-clause-holds : goal.returns-clause-holds
returns-clause-holds c =
    let a = c.args in
    let b = a.builder.now in
    let room = a.room.now in
    let plan = plan_of b room in
    let l = fields_of a.leaf.now a.y.now a.u.now a.v.now in
    let k = c.in_ok-progress in
    let start : built k.progress [] ≡ stopped (header_of b.header) (state_of b) = k.ensures.resumed in
    let whole : built k.progress plan.bytes ≡ plan = other_bytes _ _ plan.bytes start in
    let after = subst (λ (d : Building). built c.pass_leaf.new.self (with_leaf d l).bytes ≡ with_leaf d l) whole (c.pass_leaf.ensures plan.bytes l) in
    held b.header c.stopped.result b.written c.in_ok-end.end room c.append_leaf.new.room (leaf_bytes a.leaf.now a.y.now a.u.now a.v.now) c.pass_leaf.new.self
    c.state.result (with_leaf plan l)
    c.stopped.ensures.header c.stopped.ensures.state c.stopped.ensures.written c.stopped.ensures.valid c.in_ok-end.ensures.appended c.state.ensures.stopped
    c.state.ensures.valid after refl refl

pub returns-clause-status : goal.returns-clause-status
returns-clause-status c =
    let a = c.args in
    let b = a.builder.now in
    let room = a.room.now in
    let plan = plan_of b room in
    let l = fields_of a.leaf.now a.y.now a.u.now a.v.now in
    let bytes = leaf_bytes a.leaf.now a.y.now a.u.now a.v.now in
    let k = c.in_ok-check_leaf.ensures in
    let start = c.in_ok-progress.ensures.resumed in
    let asked = subst (λ (d : Building). asks_leaf (asked_part d) ≡ true) start k.asked in
    let counted =
    subst (λ (d : Building). admits_leaf_fields d.header (asked_part d) (kind_of a.leaf.now) (uv_type_of a.leaf.now) (length a.y.now) (length a.u.now)
    (length a.v.now) ≡ true) start k.admitted in
    let admitted : admits_leaf plan.header (asked_part plan) l ≡ true = admitted_by_counts plan.header (asked_part plan) a.leaf.now a.y.now a.u.now a.v.now
    ∙ counted in
    let len = more_bytes room bytes b.written bytes refl c.in_ok-progress.ensures.written in
    let end = c.in_ok-end.ensures.appended in
    done_status (is_builder b (length room)) (asks_leaf (asked_part plan)) (are_numbers a.leaf.now && admits_leaf plan.header (asked_part plan) l)
    (with_leaf plan l).bytes (length room)
    c.in_ok-progress.ensures.valid asked (both k.numbers admitted) (omega (arith, len, end.end_is, end.short)) (omega (arith, len, end.end_is, end.fits))
  where
    both : {d e : Bool} → d ≡ true → e ≡ true → (d && e) ≡ true
    both p q = rw (p, q) refl

pub returns-clause-told : goal.returns-clause-told
returns-clause-told c = λ p t.
    let a = c.args in
    let plan = plan_of a.builder.now a.room.now in
    let l = fields_of a.leaf.now a.y.now a.u.now a.v.now in
    let k = c.in_ok-check_leaf.ensures in
    let e = c.in_ok-end.ensures in
    let start = c.in_ok-progress.ensures.resumed in
    let asked = subst (λ (d : Building). asks_leaf (asked_part d) ≡ true) start k.asked in
    let counted =
    subst (λ (d : Building). admits_leaf_fields d.header (asked_part d) (kind_of a.leaf.now) (uv_type_of a.leaf.now) (length a.y.now) (length a.u.now)
    (length a.v.now) ≡ true) start k.admitted in
    let admitted : admits_leaf plan.header (asked_part plan) l ≡ true = admitted_by_counts plan.header (asked_part plan) a.leaf.now a.y.now a.u.now a.v.now
    ∙ counted in
    let here = leaf_tells plan p l t asked admitted k.fits e.fit e.u_fit e.v_fit in
    subst (λ (d : Building). Tells d (plan_with_leaf p (asked_part plan) l)) (sym (returns-clause-holds c).holds) here
