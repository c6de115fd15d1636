use Rattle.std.proofs.Common.{refl, ◌≡◌, ◌++◌, [], ◌∷◌, List, ℕ, length, take, ap, sym, subst, true, arith}
use Rattle.av1_planwrite.specs.Builder.{built}
use Rattle.av1_planwrite.specs.Building.{Building, Tells, admits_mark, asked_part, asks_mark, with_mark}
use Rattle.av1_planwrite.specs.States.{stopped}
use Rattle.av1_planwrite.proofs.BuilderParts.{other_bytes}
use Rattle.av1_planwrite.proofs.PlanTexts.{byte_is}
use Rattle.av1_c.specs.Builders.{header_of, is_builder, plan_of, state_of}
use Rattle.av1_c.proofs.Builds.{done_status, held, one_more}
use Rattle.av1_c.proofs.build_calls.give_mark.Goals as goal

pub returns-clause-holds : goal.returns-clause-holds
returns-clause-holds c =
    let b = c.args.builder.now in
    let room = c.args.room.now in
    let plan = plan_of b room in
    let k = c.in_ok-progress in
    let start : built k.progress [] ≡ stopped (header_of b.header) (state_of b) = k.ensures.resumed in
    let whole : built k.progress plan.bytes ≡ plan = other_bytes _ _ plan.bytes start in
    let after : built c.pass_mark.new.self (with_mark plan c.args.mark).bytes ≡ with_mark plan c.args.mark =
    subst (λ (d : Building). built c.pass_mark.new.self (with_mark d c.args.mark).bytes ≡ with_mark d c.args.mark) whole (c.pass_mark.ensures.given plan.bytes)
    in
    held b.header c.stopped.result b.written c.in_ok-end.end room _ (c.args.mark ∷ []) c.pass_mark.new.self c.state.result (with_mark plan c.args.mark)
    c.stopped.ensures.header c.stopped.ensures.state c.stopped.ensures.written c.stopped.ensures.valid c.in_ok-end.ensures.appended c.state.ensures.stopped
    c.state.ensures.valid
    after refl (ap (λ (more : List ℕ). take b.written room ++ more) (byte_is c.args.mark (omega arith)))

pub returns-clause-status : goal.returns-clause-status
returns-clause-status c =
    let b = c.args.builder.now in
    let room = c.args.room.now in
    let plan = plan_of b room in
    let start = c.in_ok-progress.ensures.resumed in
    let asked = subst (λ (d : Building). asks_mark (asked_part d) ≡ true) start c.in_ok-check_mark.ensures.asked in
    let admitted = subst (λ (d : Building). admits_mark d.header (asked_part d) c.args.mark ≡ true) start c.in_ok-check_mark.ensures.admitted in
    let len = one_more room b.written c.args.mark c.in_ok-progress.ensures.written in
    let end = c.in_ok-end.ensures in
    done_status (is_builder b (length room)) (asks_mark (asked_part plan)) (admits_mark plan.header (asked_part plan) c.args.mark)
    (with_mark plan c.args.mark).bytes (length room)
    c.in_ok-progress.ensures.valid asked admitted (omega (arith, len, end.appended.end_is, end.appended.short))
    (omega (arith, len, end.appended.end_is, end.appended.fits))

pub returns-clause-told : goal.returns-clause-told
returns-clause-told c = λ p t.
    let b = c.args.builder.now in
    let room = c.args.room.now in
    let plan = plan_of b room in
    let k = c.in_ok-progress in
    let whole : built k.progress plan.bytes ≡ plan = other_bytes _ _ plan.bytes k.ensures.resumed in
    let before = subst (λ (d : Building). Tells d p) (sym whole) t in
    let after : Tells (with_mark (built k.progress plan.bytes) c.args.mark) p =
    subst (λ (d : Building). Tells d p) (c.pass_mark.ensures.given plan.bytes) (c.pass_mark.ensures.told plan.bytes p before) in
    let here : Tells (with_mark plan c.args.mark) p = subst (λ (d : Building). Tells (with_mark d c.args.mark) p) whole after in
    subst (λ (d : Building). Tells d p) (sym (returns-clause-holds c).holds) here
