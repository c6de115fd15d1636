-- A frame whose slots 2 and 5 were filled, and planes predicted from it.
use Rattle.std.proofs.Common.{ℕ, zero, suc, ◌/◌, ◌^◌, ◌<◌, ◌≤◌, ◌≡◌, ◌∙◌, ap, sym, subst, refl, lit<, arith, true, List, [], ◌∷◌, Some, None, slice_set, Result}
use Rattle.std.proofs.Common.{Ok, Err, IfOk}
use Rattle.av1_blocks.specs.declared.mc.FilterMode.{FilterMode}
use Rattle.av1_blocks.specs.declared.partition.RefType.{RefType}
use Rattle.av1_blocks.specs.declared.partition.RefType.TheVariants.{LAST_FRAME, ALTREF_FRAME}
use Rattle.av1_frame.specs.declared.frame_invariants.FrameInvariants.{FrameInvariants}
use Rattle.av1_frame.specs.declared.plane.Plane.{Plane}
use Rattle.av1_frame.specs.declared.slots.Slot.{Slot}
use Rattle.av1_frame.specs.Areas.{VisibleArea}
use Rattle.av1_frame.specs.Frames.{new_frame}
use Rattle.av1_frame.specs.Planes.{InPlane, IsWhole, new_config}
use Rattle.av1_blocks.specs.Depths.{IsDepth}
use Rattle.av1_blocks.specs.References.{reference_number}
use Rattle.av1_inter.specs.Reference.{IsServed}
use Rattle.av1_plan.specs.declared.header.Header.{Header}
use Rattle.av1_plan.specs.Geometry.{coded_width, coded_height, has_slot, xdec, ydec}
use Rattle.av1_plan.specs.Plan.{PlanValue}
use Rattle.av1_plan.specs.Validity.{has_reference}
use Rattle.av1_tile.specs.Motion.{HoldsPlane, HoldsReferences, ServesPlan}
use Rattle.av1_tile.proofs.Served.{holds_serves, plane_holds, plane_of_slot, served}
use Rattle.av1_tile.proofs.FilledSlots.{holds_all, holds_empty, holds_filled, holds_none}

-- the slots that its references name
abbrev pub references_named : List ℕ
references_named = 2 ∷ 2 ∷ 2 ∷ 2 ∷ 2 ∷ 2 ∷ 5 ∷ []

-- the header of the frame
abbrev pub header_of : FilterMode → ℕ → Header
header_of filter depth = record {
  version = 1;
  width = 16;
  height = 8;
  depth = depth;
  sampling = 0;
  filter = filter;
  edge_filter = true;
  slots = references_named;
  mask = 36;
}

module _ {T : Type 0} (num : T → ℕ) (filter : FilterMode) (depth : ℕ) (is_depth : IsDepth depth) (y u v y' u' v' : List ℕ) (s t : Slot T) where
  abbrev value : PlanValue
  value = record {
    header = header_of filter depth;
    references = None ∷ None ∷ Some (y ∷ u ∷ v ∷ []) ∷ None ∷ None ∷ Some (y' ∷ u' ∷ v' ∷ []) ∷ None ∷ None ∷ [];
    leaves = [];
  }

  pub filled_serves : (made first second : FrameInvariants T) → made ≡ new_frame 16 8 filter depth true references_named
      → first ≡ record made { slots = slice_set made.slots 2 (Some s) } → second ≡ record first { slots = slice_set first.slots 5 (Some t) }
      → HoldsPlane num (header_of filter depth) 0 y s.y → HoldsPlane num (header_of filter depth) 1 u s.u → HoldsPlane num (header_of filter depth) 2 v s.v
      → HoldsPlane num (header_of filter depth) 0 y' t.y → HoldsPlane num (header_of filter depth) 1 u' t.u → HoldsPlane num (header_of filter depth) 2 v' t.v
      → (a : PlanValue) × (ServesPlan num a second × ((has_reference a.header LAST_FRAME ≡ true) × (has_reference a.header ALTREF_FRAME ≡ true)))
  unfolding coded_width coded_height has_slot has_reference
  filled_serves made first second new set_first set_second a b c d e f =
      let n1 = holds_empty num value 0 made (holds_none num value made new) refl in
      let n2 = holds_empty num value 1 made n1 refl in
      let n3 = holds_filled num value 2 made n2 s (lit< tt) refl a b c in
      let fi3 : FrameInvariants T = record made { slots = slice_set made.slots 2 (Some s) } in
      let n5 = holds_empty num value 4 fi3 (holds_empty num value 3 fi3 n3 refl) refl in
      let n6 = holds_filled num value 5 fi3 n5 t (lit< tt) refl d e f in
      let fi6 : FrameInvariants T = record fi3 { slots = slice_set fi3.slots 5 (Some t) } in
      let n8 = holds_empty num value 7 fi6 (holds_empty num value 6 fi6 n6 refl) refl in
      let all : HoldsReferences num value fi6 = holds_all num value 8 fi6 (omega arith) is_depth n8 in (
        value,
        (
          subst (λ (g : FrameInvariants T). ServesPlan num value g)
              (sym (set_second ∙ ap (λ (g : FrameInvariants T). record g { slots = slice_set g.slots 5 (Some t) }) set_first)) (holds_serves num value fi6 all),
          (refl, refl),
        ),
      )

-- ---- what such a frame serves

short_side : (s n : ℕ) → s ≤ 1 → n ≤ 32 → n ≤ 64 / 2 ^ s
short_side zero n few short = omega (arith, short)
short_side (suc zero) n few short = omega (arith, short)
short_side (suc (suc s)) n few short = absurd (omega (arith, few))

-- areas with sides up to 32, in each plane
pub served_short : {T : Type 0} (num : T → ℕ) (value : PlanValue) (fi : FrameInvariants T) (reference : RefType) (p width height : ℕ) → ServesPlan num value fi
    → has_reference value.header reference ≡ true → 1 ≤ reference_number reference → reference_number reference ≤ 7 → p < 3 → width ≤ 32 → height ≤ 32 →
    IsServed num fi reference p width height
served_short num value fi reference p width height serves has least most h w k =
    let (plane, is) = plane_of_slot num value fi serves reference has p h in
    let held = plane_holds num value fi serves reference has p plane h is in
    served num value fi reference p width height serves has least most h
    (short_side (xdec value.header p) width (subst (λ (s : ℕ). s ≤ 1) held.xdec held.padded.whole.xdec) w)
    (short_side (ydec value.header p) height (subst (λ (s : ℕ). s ≤ 1) held.ydec held.padded.whole.ydec) k)

-- ---- planes that an area is predicted in

-- a plane with just these sides stores their area
pub whole_fits : {T : Type 0} (plane : Plane T) (a : VisibleArea) (w h : ℕ) → w ≡ a.width → h ≡ a.height → a.x ≡ 0 → a.y ≡ 0 →
    plane.plane_cfg ≡ new_config w h 0 0 0 0 → IsWhole plane → InPlane a plane
whole_fits plane a w h ew eh ex ey cfg whole = record {
  storage = whole;
  columns = omega (arith, whole.visible_columns, ap (λ c. c.width) cfg);
  rows = omega (arith, whole.visible_rows, ap (λ c. c.height) cfg);
}

pub blank_fits : {T E : Type 0} (result : Result (Plane T) E) (a : VisibleArea) (w h : ℕ) → w ≡ a.width → h ≡ a.height → a.x ≡ 0 → a.y ≡ 0 →
    IfOk result (λ plane. plane.plane_cfg ≡ new_config w h 0 0 0 0) → IfOk result IsWhole → IfOk result (λ plane. InPlane a plane)
blank_fits (Ok plane) a w h ew eh ex ey cfg whole = whole_fits plane a w h ew eh ex ey cfg whole
blank_fits (Err error) a w h ew eh ex ey cfg whole = tt
