-- Frame settings that hold the references of a plan: which areas they serve, and what is predicted from them.
use Rattle.std.proofs.Common.{ℕ, zero, suc, ◌+◌, ◌-◌, ◌/◌, ◌<◌, ◌≤◌, ◌≡◌, ◌∙◌, ◌^◌, ap, sym, subst, refl, arith, true, List, [], ◌∷◌, get_or, Option, Some}
use Rattle.std.proofs.Common.{None, is_some, ltb}
use Rattle.std.proofs.lemmas.Bool.{and_parts, lt-ltb, ltb-true}
use Rattle.av1_blocks.specs.declared.partition.RefType.{RefType}
use Rattle.av1_blocks.specs.References.{reference_number}
use Rattle.av1_frame.specs.declared.frame_invariants.FrameInvariants.{FrameInvariants}
use Rattle.av1_frame.specs.declared.plane.Plane.{Plane}
use Rattle.av1_frame.specs.Frames.{slot_plane}
use Rattle.av1_frame.specs.Planes.{sample_at}
use Rattle.av1_inter.specs.Reference.{as_reference, IsReference, IsServed, slot_of}
use Rattle.av1_plan.specs.declared.header.Header.{Header}
use Rattle.av1_plan.specs.Geometry.{has_slot, xdec, ydec}
use Rattle.av1_plan.specs.Plan.{PlanValue}
use Rattle.av1_plan.specs.Validity.{has_reference}
use Rattle.av1_plan.proofs.ValidModes.{HasPlanes}
use Rattle.av1_tile.specs.Motion.{HoldsPlane, HoldsReferences, ServesPlan, reference_plane, slot_in, slot_samples}
use Rattle.av1_inter.proofs.SameReferences.{ShowSame}

-- ---- what a plan offers

-- an element below what stands for those past the end
present : (xs : List ℕ) (i d : ℕ) → get_or xs i d < d → get_or xs i 0 ≡ get_or xs i d
present [] i d h = absurd (omega arith)
present (x ∷ xs) zero d h = refl
present (x ∷ xs) (suc i) d h = present xs i d h

-- a reference that names a slot with planes
pub record IsOffered (h : Header) (reference : RefType) : Type 0 where
  pub slot : slot_in h reference < 8
  pub carried : has_slot h (slot_in h reference) ≡ true

-- a reference that a header has names a slot with planes
pub offered : (h : Header) (reference : RefType) → has_reference h reference ≡ true → IsOffered h reference
unfolding has_reference
offered h reference e =
    let i = reference_number reference - 1 in
    let (below, carried) = and_parts (ltb (get_or h.slots i 8) 8) (has_slot h (get_or h.slots i 8)) e in
    let small : get_or h.slots i 8 < 8 = ltb-true _ _ below in
    let same : get_or h.slots i 0 ≡ get_or h.slots i 8 = present h.slots i 8 small in
    record { slot = omega (arith, same, small); carried = ap (has_slot h) same ∙ carried }

-- a reference of a valid leaf is one that the header has
pub accepted : (h : Header) (reference : RefType) → HasPlanes h reference → has_reference h reference ≡ true
unfolding has_reference
accepted h reference has = rw (lt-ltb (get_or h.slots (reference_number reference - 1) 8) 8 has.slot, has.carries) refl

-- ---- what frame settings hold

some_of : {X : Type 0} (o : Option X) → is_some o ≡ true → (x : X) × (o ≡ Some x)
some_of (Some x) e = (x, refl)
some_of None e = absurd cc

-- settings that hold all references of a plan serve it
pub holds_serves : {T : Type 0} (num : T → ℕ) (value : PlanValue) (fi : FrameInvariants T) → HoldsReferences num value fi → ServesPlan num value fi
holds_serves {T} num value fi holds = record {
  settings = record { depth = holds.settings.depth; filter = holds.settings.filter; short_by_av1 = holds.settings.short_by_av1 };
  depth = holds.depth;
  named = λ reference has. omega (arith, slot_is reference, (offered value.header reference has).slot);
  filled = λ reference p has h.
      let o = offered value.header reference has in
      holds.filled _ p (omega (arith, o.slot, slot_is reference)) h ∙ ap (has_slot value.header) (slot_is reference) ∙ o.carried;
  planes = λ reference p plane has h e.
      let o = offered value.header reference has in
      holds.planes _ p plane o.slot h (ap (λ (s : ℕ). slot_plane fi s p) (sym (slot_is reference)) ∙ e);
}
  where
    -- the slot of a reference is that which the header names
    slot_is : (reference : RefType) → slot_of fi reference ≡ slot_in value.header reference
    slot_is reference = ap (λ (slots : List ℕ). get_or slots (reference_number reference - 1) 0) holds.settings.slots

-- the slot of a reference that a plan has is filled
pub plane_of_slot : {T : Type 0} (num : T → ℕ) (value : PlanValue) (fi : FrameInvariants T) → ServesPlan num value fi → (reference : RefType) →
    has_reference value.header reference ≡ true → (p : ℕ) → p < 3
    → (plane : Plane T) × (slot_plane fi (slot_of fi reference) p ≡ Some plane)
plane_of_slot num value fi serves reference has p h = some_of _ (serves.filled reference p has h)

-- by the plan's planes
pub plane_holds : {T : Type 0} (num : T → ℕ) (value : PlanValue) (fi : FrameInvariants T) → ServesPlan num value fi → (reference : RefType) →
    has_reference value.header reference ≡ true → (p : ℕ) (plane : Plane T) → p < 3
    → slot_plane fi (slot_of fi reference) p ≡ Some plane → HoldsPlane num value.header p (slot_samples value (slot_in value.header reference) p) plane
plane_holds num value fi serves reference has p plane h e = serves.planes reference p plane has h e

-- a pad reaches 7 samples past a side, halved or not
reaches : (s n pad : ℕ) → s ≤ 1 → n ≤ 64 / 2 ^ s → 80 / 2 ^ s ≤ pad → n + 7 ≤ pad
reaches zero n pad few short wide = omega (arith, short, wide)
reaches (suc zero) n pad few short wide = omega (arith, short, wide)
reaches (suc (suc s)) n pad few short wide = absurd (omega (arith, few))

-- such a plane is a reference for blocks with sides up to 64 in luma, and half as many where the plane is halved
serves : {T : Type 0} (num : T → ℕ) (h : Header) (p : ℕ) (samples : List ℕ) (plane : Plane T) (depth width height : ℕ) → HoldsPlane num h p samples plane →
    depth ≡ h.depth
    → width ≤ 64 / 2 ^ xdec h p → height ≤ 64 / 2 ^ ydec h p → IsReference num plane depth width height
serves num h p samples plane depth width height holds e w k = record {
  padded = holds.padded;
  within =
      λ x y a b. subst (λ (d : ℕ). sample_at num plane x y < 2 ^ d) (sym e) (holds.within x y (omega (arith, a, holds.width)) (omega (arith, b, holds.height)));
  xpad = reaches (xdec h p) width _ (subst (λ (s : ℕ). s ≤ 1) holds.xdec holds.padded.whole.xdec) w holds.xpad;
  ypad = reaches (ydec h p) height _ (subst (λ (s : ℕ). s ≤ 1) holds.ydec holds.padded.whole.ydec) k holds.ypad;
}

-- Settings that serve a plan serve each reference that the plan's header has, for areas with sides up to 64 in luma.
pub served : {T : Type 0} (num : T → ℕ) (value : PlanValue) (fi : FrameInvariants T) (reference : RefType) (p width height : ℕ) → ServesPlan num value fi
    → has_reference value.header reference ≡ true → 1 ≤ reference_number reference → reference_number reference ≤ 7 → p < 3 →
    width ≤ 64 / 2 ^ xdec value.header p → height ≤ 64 / 2 ^ ydec value.header p → IsServed num fi reference p width height
served num value fi reference p width height holds has least most h w k = record {
  inter = λ e. absurd (let n = ap reference_number e in omega (arith, n));
  some = λ e. absurd (let n = ap reference_number e in omega (arith, n));
  slot = holds.named reference has;
  plane = λ plane e. serves num value.header p _ plane fi.bit_depth width height (plane_holds num value fi holds reference has p plane h e) holds.settings.depth
      w k;
}

-- what is served with longer sides is served with shorter ones
pub served_shorter : {T : Type 0} (num : T → ℕ) (fi : FrameInvariants T) (reference : RefType) (p m n width height : ℕ) → width ≤ m → height ≤ n →
    IsServed num fi reference p m n → IsServed num fi reference p width height
served_shorter num fi reference p m n width height w h s = record {
  inter = s.inter;
  some = s.some;
  slot = s.slot;
  plane = λ plane e.
      (let is = s.plane plane e in record { padded = is.padded; within = is.within; xpad = omega (arith, is.xpad, w); ypad = omega (arith, is.ypad, h) });
}

-- such a plane shows what the plan's plane does
pub held_same : {T : Type 0} (num : T → ℕ) (value : PlanValue) (slot p : ℕ) (plane : Plane T) →
    HoldsPlane num value.header p (slot_samples value slot p) plane → ShowSame (as_reference num plane) (reference_plane value slot p)
held_same num value slot p plane holds = record {
  width = holds.width;
  height = holds.height;
  xdec = holds.xdec;
  ydec = holds.ydec;
  some_columns = omega (arith, holds.padded.whole.some_columns, holds.width);
  some_rows = omega (arith, holds.padded.whole.some_rows, holds.height);
  samples = holds.shows;
}
