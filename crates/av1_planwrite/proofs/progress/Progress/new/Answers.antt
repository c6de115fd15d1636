use Rattle.std.proofs.Common.{◌≡◌, refl, sym, subst, ◌∙◌, true}
use Rattle.av1_planwrite.specs.Building.{Building, Tells, admits_header, plan_begun}
use Rattle.av1_planwrite.proofs.BuilderParts.{building_is}
use Rattle.av1_planwrite.proofs.Telling.{tells_begun}
use Rattle.av1_planwrite.proofs.ReadHeaders.{ranges_of, header_read}
use Rattle.av1_planwrite.proofs.progress.Progress.new.Goals as goal

pub new-requires-clause-width : goal.new-requires-clause-width
new-requires-clause-width c =
    let admitted : admits_header c.args.header.now ≡ true = sym c.admits_header.ensures.value ∙ c.if-not-admits_header.false in
    (ranges_of c.args.header.now admitted c.admits_header.ensures.mask c.admits_header.ensures.slots).width

pub new-requires-clause-height : goal.new-requires-clause-height
new-requires-clause-height c =
    let admitted : admits_header c.args.header.now ≡ true = sym c.admits_header.ensures.value ∙ c.if-not-admits_header.false in
    (ranges_of c.args.header.now admitted c.admits_header.ensures.mask c.admits_header.ensures.slots).height

pub invariant_of-result : goal.invariant_of-result
invariant_of-result c =
    let admitted : admits_header c.args.header.now ≡ true = sym c.admits_header.ensures.value ∙ c.if-not-admits_header.false in
    let r = ranges_of c.args.header.now admitted c.admits_header.ensures.mask c.admits_header.ensures.slots in
    record {
      admitted = rw c.new.ensures.header admitted;
      mask = rw c.new.ensures.header c.admits_header.ensures.mask;
      seven = rw c.new.ensures.header c.admits_header.ensures.slots;
      depth = rw c.new.ensures.header r.depth;
      slots = c.next_slot.ensures.within;
    }

pub returns-clause-begun : goal.returns-clause-begun
returns-clause-begun c = building_is _ c.args.header.now _ _ _ _ _ _ c.new.ensures.header c.next_slot.ensures.value c.new.ensures.parts refl

pub returns-clause-told : goal.returns-clause-told
returns-clause-told c =
    let h = c.args.header.now in
    let admitted : admits_header h ≡ true = sym c.admits_header.ensures.value ∙ c.if-not-admits_header.false in
    subst (λ (b : Building). Tells b (plan_begun h)) (sym (returns-clause-begun c))
    (tells_begun h (header_read h admitted c.admits_header.ensures.mask c.admits_header.ensures.slots))
