use Rattle.std.proofs.Common.{◌+◌, refl, sym, ap, subst, ◌∙◌, arith}
use Rattle.av1_plan.specs.declared.header.Header.{Header}
use Rattle.std.proofs.lemmas.Bool.{ltb-true}
use Rattle.av1_planwrite.specs.Builder.{built}
use Rattle.av1_planwrite.specs.Building.{Building, Tells, next_slot, plan_with_reference}
use Rattle.av1_planwrite.proofs.BuilderParts.{building_is}
use Rattle.av1_planwrite.proofs.ReadHeaders.{header_read}
use Rattle.av1_planwrite.proofs.Telling.{tells_reference}
use Rattle.av1_planwrite.proofs.progress.Progress.pass_reference.Goals as goal

pub next_slot-self-requires : goal.next_slot-self-requires
next_slot-self-requires c = omega (arith, ltb-true c.args.self.now.slot 8 c.requires)

pub returns-clause-given : goal.returns-clause-given
returns-clause-given c = λ bytes y u v.
    let s = c.args.self.now in
    building_is s.walk.header s.walk.header _ _ _ _ _ _ refl
    (c.next_slot-self.ensures.value ∙ ap (λ (h : Header). next_slot h (s.slot + 1)) c.header.ensures) refl refl

pub returns-clause-told : goal.returns-clause-told
returns-clause-told c = λ bytes y u v p t admitted.
    let s = c.args.self.now in
    subst (λ (b : Building). Tells b (plan_with_reference p y u v)) (sym (returns-clause-given c bytes y u v))
    (tells_reference (built s bytes) p y u v t (header_read s.walk.header s.admitted s.mask s.seven) c.requires admitted)
