use Rattle.std.proofs.Common.{refl, sym, subst, ◌∙◌}
use Rattle.av1_plan.specs.declared.header.Header.{Header}
use Rattle.av1_plan.specs.Values.{leaves_value}
use Rattle.av1_sequence.specs.Kept.{AreReady}
use Rattle.av1_sequence.specs.Outcomes.{plan_over}
use Rattle.av1_sequence.proofs.Framed.{apart_accepted, kept_accepted, not_placed, own_read, own_ready, placed_there, plan_is_over, ready_again, ready_held}
use Rattle.av1_sequence.proofs.Framed.{ready_still, room_over}
use Rattle.av1_sequence.proofs.Framed.{depth_over, depth_still, not_apart, room_still}
use Rattle.av1_sequence.proofs.sequence.SequenceOf.show.Goals as goal

pub planes_for-requires-clause-frame : goal.planes_for-requires-clause-frame
planes_for-requires-clause-frame g c = own_read c.args.self.now c.self.inside c.self.view_is c.args.head.now c.requires.head c.args.header.now c.requires.header

pub planes_for-requires-clause-ready : goal.planes_for-requires-clause-ready
planes_for-requires-clause-ready g c =
    λ planes e. own_ready c.args.self.now c.self.inside c.self.view_is c.args.head.now c.args.header.now planes c.requires.header
    (c.self.inside.ready planes (sym c.take-apart.ensures.value ∙ e))

pub reconstruct-requires-clause-plan : goal.reconstruct-requires-clause-plan
reconstruct-requires-clause-plan g c = (
  plan_over c.args.self.now c.args.head.now (leaves_value c.args.leaves.now),
  plan_is_over c.args.self.now c.self.inside c.self.view_is c.args.head.now c.args.header.now (leaves_value c.args.leaves.now) c.set_head.new.self.fi
      c.requires.header c.requires.spelled c.requires.valid c.set_head.ensures.serves,
)

pub reconstruct-requires-clause-room : goal.reconstruct-requires-clause-room
reconstruct-requires-clause-room g c = room_over c.args.self.now c.self.inside c.self.view_is c.args.head.now c.args.header.now c.requires.header

pub reconstruct-requires-clause-depth : goal.reconstruct-requires-clause-depth
reconstruct-requires-clause-depth g c = depth_over c.args.self.now c.self.inside c.self.view_is c.args.head.now c.args.header.now c.requires.header

pub invariant_of-self-inside-then-head-eq0 : goal.invariant_of-self-inside-then-head-eq0
invariant_of-self-inside-then-head-eq0 g c = (
  room_still c.self.inside.pictures.header c.set_head.new.self.header c.self.inside.memory c.reconstruct.new.self c.set_head.ensures.header
      c.reconstruct.ensures.cells c.self.inside.room,
  (
    ready_held g.T.Pixel.num c.self.inside.pictures.header c.set_head.new.self.header c.reconstruct.new.planes c.set_head.ensures.header
        (ready_still c.args.self.now c.self.inside c.self.view_is c.args.head.now c.args.header.now c.in_ok-planes.planes c.reconstruct.new.planes
        c.requires.header c.in_ok-planes.ensures.ready c.reconstruct.ensures.stores c.reconstruct.ensures.layout),
    (
      (λ e. refl),
      (
        (λ place e. not_placed place e),
        (depth_still c.self.inside.pictures.header c.set_head.new.self.header g.T.Pixel.BITS c.set_head.ensures.header c.self.inside.fits, tt),
      ),
    ),
  ),
)

pub invariant_of-self-inside-else-head-eq0 : goal.invariant_of-self-inside-else-head-eq0
invariant_of-self-inside-else-head-eq0 g c = (
  room_still c.self.inside.pictures.header c.keep-place.new.self.header c.self.inside.memory c.reconstruct.new.self
      (c.keep-place.ensures.header ∙ c.set_head.ensures.header) c.reconstruct.ensures.cells c.self.inside.room,
  (
    ready_again g.T.Pixel.num c.set_head.new.self.header c.keep-place.new.self.header c.keep-place.result.1 c.keep-place.ensures.header
        c.keep-place.ensures.free,
    (
      (λ e. not_apart c.keep-place.result.0 e),
      (
        (λ place e. placed_there g.T.Pixel.num c.keep-place.new.self.header c.keep-place.new.self.fi c.keep-place.result.0 place c.keep-place.ensures.kept e),
        (
          depth_still c.self.inside.pictures.header c.keep-place.new.self.header g.T.Pixel.BITS
              (c.keep-place.ensures.header ∙ c.set_head.ensures.header) c.self.inside.fits,
          tt,
        ),
      ),
    ),
  ),
)

pub keep-place-requires-clause-ready : goal.keep-place-requires-clause-ready
keep-place-requires-clause-ready g c =
    subst (λ (x : Header). AreReady g.T.Pixel.num x c.reconstruct.new.planes) (sym c.set_head.ensures.header)
    (ready_still c.args.self.now c.self.inside c.self.view_is c.args.head.now c.args.header.now c.in_ok-planes.planes c.reconstruct.new.planes c.requires.header
    c.in_ok-planes.ensures.ready c.reconstruct.ensures.stores c.reconstruct.ensures.layout)

pub returns-then-head-eq0-clause-accepted : goal.returns-then-head-eq0-clause-accepted
returns-then-head-eq0-clause-accepted g c =
    let leaves = leaves_value c.args.leaves.now in
    let set = c.set_head.new.self in
    let walked =
    plan_is_over c.args.self.now c.self.inside c.self.view_is c.args.head.now c.args.header.now leaves set.fi c.requires.header c.requires.spelled
    c.requires.valid c.set_head.ensures.serves in
    apart_accepted c.args.self.now c.self.inside c.self.view_is c.args.head.now leaves set.header set.fi set.places c.reconstruct.new.planes c.if-head-eq0.true
    c.set_head.ensures.header c.set_head.ensures.slots
    (c.reconstruct.ensures.shown (plan_over c.args.self.now c.args.head.now leaves) walked)

pub returns-else-head-eq0-clause-accepted : goal.returns-else-head-eq0-clause-accepted
returns-else-head-eq0-clause-accepted g c =
    let leaves = leaves_value c.args.leaves.now in
    let set = c.set_head.new.self in
    let walked =
    plan_is_over c.args.self.now c.self.inside c.self.view_is c.args.head.now c.args.header.now leaves set.fi c.requires.header c.requires.spelled
    c.requires.valid c.set_head.ensures.serves in
    kept_accepted c.args.self.now c.self.inside c.self.view_is c.args.head.now leaves set.header c.keep-place.new.self.header set.fi
    c.keep-place.new.self.fi set.places
    c.keep-place.new.self.places c.keep-place.result.0 c.reconstruct.new.planes
    c.set_head.ensures.header c.keep-place.ensures.header c.set_head.ensures.slots c.keep-place.ensures.slots c.keep-place.ensures.shown
    (c.reconstruct.ensures.shown (plan_over c.args.self.now c.args.head.now leaves) walked)
