use Rattle.std.proofs.Common.{◌+◌, ◌<◌, ◌∙◌, List, length, ℕ, sym, subst, arith}
use Rattle.av1_frame.specs.declared.frame_invariants.FrameInvariants.{FrameInvariants}
use Rattle.av1_plan.specs.Plan.{slot_values}
use Rattle.av1_plan.specs.ReadPlans.{ArePlane}
use Rattle.av1_tile.specs.Motion.{HoldsPlane, frame_with}
use Rattle.av1_tile.proofs.FilledSlots.{HoldsFirst, holds_all, holds_empty, item_at, stored_none, stored_planes, stored_some}
use Rattle.av1_tile.proofs.slots.stored_references.Goals.{in-Some+in_ok-y+in_ok-u+in_ok-v, in_default}
use Rattle.av1_tile.proofs.slots.stored_references.Goals as goal

pub padded_plane-requires-in-Some-clause-samples : goal.padded_plane-requires-in-Some-clause-samples
padded_plane-requires-in-Some-clause-samples g c =
    let h = c.args.header.now in
    let references = c.args.references.now in
    let n = c.loop-slot.slot in
    let below : n < length references = omega (arith, c.requires.eight, c.loop-slot-test.true) in
    let at = item_at references n c.index-references-slot.result _ below c.index-references-slot.is c.in-Some.is in
    subst (ArePlane h 1) (sym c.deref-in-Some.ensures.value)
    (stored_planes h references n below (c.requires.slots n c.loop-slot-test.true) c.in-Some.planes at).2

pub padded_plane-requires-in-Some-2-clause-samples : goal.padded_plane-requires-in-Some-2-clause-samples
padded_plane-requires-in-Some-2-clause-samples g c =
    let h = c.args.header.now in
    let references = c.args.references.now in
    let n = c.loop-slot.slot in
    let below : n < length references = omega (arith, c.requires.eight, c.loop-slot-test.true) in
    let at = item_at references n c.index-references-slot.result _ below c.index-references-slot.is c.in-Some.is in
    subst (ArePlane h 2) (sym c.deref-in-Some-2.ensures.value)
    (stored_planes h references n below (c.requires.slots n c.loop-slot-test.true) c.in-Some.planes at).3

pub loop-slot-preserved : goal.loop-slot-preserved
loop-slot-preserved g c =
    let num = g.T.Pixel.num in
    let h = c.args.header.now in
    let references = c.args.references.now in
    let n = c.loop-slot.slot in
    let below : n < length references = omega (arith, c.requires.eight, c.loop-slot-test.true) in
    let value = frame_with h (slot_values references) in
    let stored = c.requires.slots n c.loop-slot-test.true in
    let o = c.index-references-slot.result in
    elim c.match-references-slot.branch [
      | in-Some+in_ok-y+in_ok-u+in_ok-v w ↦
          subst (λ (f : FrameInvariants g.row.T.Denot). HoldsFirst num value (n + 1) f) (sym (w.fi-is ∙ w.set_slot.ensures))
          (stored_some num h references n c.loop-slot.fi w.in-Some.planes (record { y = w.in_ok-y.y; u = w.in_ok-u.u; v = w.in_ok-v.v }) below
          c.loop-slot-test.true (item_at references n o _ below c.index-references-slot.is w.in-Some.is) stored
          (subst (λ (samples : List ℕ). HoldsPlane num h 0 samples w.in_ok-y.y) w.deref.ensures.value w.in_ok-y.ensures)
          (subst (λ (samples : List ℕ). HoldsPlane num h 1 samples w.in_ok-u.u) w.deref-in-Some.ensures.value w.in_ok-u.ensures)
          (subst (λ (samples : List ℕ). HoldsPlane num h 2 samples w.in_ok-v.v) w.deref-in-Some-2.ensures.value w.in_ok-v.ensures) c.loop-slot.invariant)
      | in_default w ↦
          subst (λ (f : FrameInvariants g.row.T.Denot). HoldsFirst num value (n + 1) f) (sym w.fi-is)
          (holds_empty num value n c.loop-slot.fi c.loop-slot.invariant
          (stored_none h references n below stored (item_at references n o _ below c.index-references-slot.is w.in_default.is)))
    ]

pub returns : goal.returns
returns g c =
    holds_all g.T.Pixel.num (frame_with c.args.header.now (slot_values c.args.references.now)) c.loop-slot.slot c.loop-slot.fi (omega arith)
    c.requires.frame.depth c.loop-slot.invariant
