use Rattle.std.proofs.Common.{◌≡◌, ◌++◌, [], length, refl, sym, subst, true, arith}
use Rattle.av1_planwrite.specs.Builder.{built}
use Rattle.av1_planwrite.specs.Building.{Building, Tells, admits_reference, asks_reference, plan_with_reference, with_reference}
use Rattle.av1_planwrite.specs.States.{stopped}
use Rattle.av1_planwrite.specs.Text.{plane_text}
use Rattle.av1_planwrite.proofs.BuilderParts.{other_bytes}
use Rattle.av1_c.specs.Builders.{header_of, is_builder, plan_of, state_of}
use Rattle.av1_c.proofs.Builds.{done_status, held, more_bytes}
use Rattle.av1_c.proofs.build_calls.give_reference.Goals as goal

pub returns-clause-status : goal.returns-clause-status
returns-clause-status c =
    let b = c.args.builder.now in
    let room = c.args.room.now in
    let plan = plan_of b room in
    let a = c.args in
    let start = c.in_ok-progress.ensures.resumed in
    let asked = subst (λ (d : Building). asks_reference d ≡ true) start c.in_ok-check_reference.ensures.asked in
    let admitted = subst (λ (d : Building). admits_reference d.header a.y.now a.u.now a.v.now ≡ true) start c.in_ok-check_reference.ensures.admitted in
    let texts = plane_text b.header.depth a.y.now ++ plane_text b.header.depth a.u.now ++ plane_text b.header.depth a.v.now in
    let len = more_bytes room texts b.written texts refl c.in_ok-progress.ensures.written in
    let end = c.in_ok-end.ensures in
    done_status (is_builder b (length room)) (asks_reference plan) (admits_reference plan.header a.y.now a.u.now a.v.now)
    (with_reference plan a.y.now a.u.now a.v.now).bytes (length room)
    c.in_ok-progress.ensures.valid asked admitted (omega (arith, len, end.appended.end_is, end.appended.short))
    (omega (arith, len, end.appended.end_is, end.appended.fits))

pub returns-clause-holds : goal.returns-clause-holds
returns-clause-holds c =
    let b = c.args.builder.now in
    let room = c.args.room.now in
    let plan = plan_of b room in
    let a = c.args in
    let k = c.in_ok-progress in
    let start : built k.progress [] ≡ stopped (header_of b.header) (state_of b) = k.ensures.resumed in
    let whole : built k.progress plan.bytes ≡ plan = other_bytes _ _ plan.bytes start in
    let after =
    subst (λ (d : Building). built c.pass_reference.new.self (with_reference d a.y.now a.u.now a.v.now).bytes ≡ with_reference d a.y.now a.u.now a.v.now)
    whole (c.pass_reference.ensures.given plan.bytes a.y.now a.u.now a.v.now) in
    held b.header c.stopped.result b.written c.in_ok-end.end room _ _ c.pass_reference.new.self c.state.result (with_reference plan a.y.now a.u.now a.v.now)
    c.stopped.ensures.header c.stopped.ensures.state c.stopped.ensures.written c.stopped.ensures.valid c.in_ok-end.ensures.appended c.state.ensures.stopped
    c.state.ensures.valid
    after refl refl

pub returns-clause-told : goal.returns-clause-told
returns-clause-told c = λ p t.
    let plan = plan_of c.args.builder.now c.args.room.now in
    let a = c.args in
    let k = c.in_ok-progress in
    let whole : built k.progress plan.bytes ≡ plan = other_bytes _ _ plan.bytes k.ensures.resumed in
    let before = subst (λ (d : Building). Tells d p) (sym whole) t in
    let q = plan_with_reference p a.y.now a.u.now a.v.now in
    let after =
    subst (λ (d : Building). Tells d q) (c.pass_reference.ensures.given plan.bytes a.y.now a.u.now a.v.now)
    (c.pass_reference.ensures.told plan.bytes a.y.now a.u.now a.v.now p before c.in_ok-check_reference.ensures.admitted) in
    let here = subst (λ (d : Building). Tells (with_reference d a.y.now a.u.now a.v.now) q) whole after in
    subst (λ (d : Building). Tells d q) (sym (returns-clause-holds c).holds) here
