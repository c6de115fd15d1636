use Rattle.std.proofs.Common.{◌≡◌, Option, refl, sym, ap, ◌∙◌, true, arith}
use Rattle.std.specs.Prelude.{is_some}
use Rattle.av1_plan.specs.declared.tree_walk.TreeWalk.{TreeWalk}
use Rattle.av1_planwrite.specs.Building.{admits_header}
use Rattle.av1_planwrite.proofs.BuilderParts.{building_is}
use Rattle.av1_planwrite.proofs.ReadHeaders.{ranges_of}
use Rattle.av1_planwrite.proofs.States.{state_is}
use Rattle.av1_planwrite.proofs.progress.Progress.resume.Goals as goal

pub resume-requires-clause-width : goal.resume-requires-clause-width
resume-requires-clause-width c =
    let admitted : admits_header c.args.header.now ≡ true = sym c.admits_header.ensures.value ∙ c.if-not-admits_header.false in
    (ranges_of c.args.header.now admitted c.admits_header.ensures.mask c.admits_header.ensures.slots).width.1

pub resume-requires-clause-height : goal.resume-requires-clause-height
resume-requires-clause-height c =
    let admitted : admits_header c.args.header.now ≡ true = sym c.admits_header.ensures.value ∙ c.if-not-admits_header.false in
    (ranges_of c.args.header.now admitted c.admits_header.ensures.mask c.admits_header.ensures.slots).height.1

pub invariant_of-result : goal.invariant_of-result
invariant_of-result c =
    let h = c.args.header.now in
    let admitted : admits_header h ≡ true = sym c.admits_header.ensures.value ∙ c.if-not-admits_header.false in
    let r = ranges_of h admitted c.admits_header.ensures.mask c.admits_header.ensures.slots in
    let same = c.in-Some.ensures.header in
    record {
      admitted = rw same admitted;
      mask = rw same c.admits_header.ensures.mask;
      seven = rw same c.admits_header.ensures.slots;
      depth = rw same r.depth;
      slots = omega arith;
    }

pub returns-clause-resumed : goal.returns-clause-resumed
returns-clause-resumed c =
    let s = c.args.state.now in
    building_is _ c.args.header.now s.slot s.slot _ _ _ _ c.in-Some.ensures.header refl c.in-Some.ensures.parts refl

pub returns-clause-exactly : goal.returns-clause-exactly
returns-clause-exactly c =
    let h = c.args.header.now in
    let admitted : admits_header h ≡ true = sym c.admits_header.ensures.value ∙ c.if-not-admits_header.false in
    let stopped = sym c.resume.ensures.exactly ∙ ap (λ (o : Option TreeWalk). is_some o) c.in-Some.is in
    sym (state_is h c.args.state.now admitted (omega arith) stopped)
