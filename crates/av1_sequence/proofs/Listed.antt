-- The references of a frame's plan are those of a plan: the planes of a slot exactly where its mask has the slot.
use Rattle.std.proofs.Common.{ℕ, ◌<◌, ◌≡◌, ◌∙◌, true, false, Bool, List, Option, Some, None, refl, ap, sym, subst, arith, slice_index_or, is_some}
use Rattle.std.proofs.Common.{if◌then◌else◌}
use Rattle.std.specs.Option.{option_map}
use Rattle.std.proofs.lemmas.Bool.{and_parts}
use Rattle.av1_frame.specs.declared.frame_invariants.FrameInvariants.{FrameInvariants}
use Rattle.av1_frame.specs.declared.slots.Slot.{Slot}
use Rattle.av1_frame.specs.Frames.{plane_of}
use Rattle.av1_lists.proofs.Lists.{get_or-by_index, length-by_index}
use Rattle.av1_plan.specs.declared.header.Header.{Header}
use Rattle.av1_plan.specs.Grammar.{plan as grammar, plan_behind}
use Rattle.av1_plan.specs.Plan.{PlanValue}
use Rattle.av1_plan.specs.ReadPlans.{ArePlane}
use Rattle.av1_plan.specs.Spelling.{AreText, IsSpelled}
use Rattle.av1_plan.proofs.Composed.{AreListedSlots, IsListedSlot, plan_listed}
use Rattle.av1_sequence.specs.declared.head.FrameHead.{FrameHead}
use Rattle.av1_sequence.specs.Frames.{IsHead, frame_header, frame_references}
use Rattle.av1_tile.specs.Motion.{HoldsPlane}
use Rattle.av1_sequence.specs.Kept.{IsKeptAt, KeepsFrames, plane_shown, planes_shown, shown_in, slots_shown}
use Rattle.av1_sequence.specs.Slots.{Slots, is_named, is_read, slot_of}
use Rattle.av1_sequence.proofs.Serving.{mask_is, read_header, slot_shown}
use Rattle.av1_sequence.proofs.Shown.{filled_planes, held_same, place_of, plane_held, shown_same}

module _ {T : Type 0} (num : T → ℕ) (h : Header) (fi : FrameInvariants T) (places : List (Option ℕ)) (head : FrameHead)
    (keeps : KeepsFrames num h fi places) where
  abbrev slots : Slots
  slots = slots_shown num h fi places

  abbrev own_header : Header
  own_header = frame_header h slots head

  plane_is : (place p : ℕ) (t : Slot T) → p < 3 → IsKeptAt num h fi place → slice_index_or fi.slots place None ≡ Some t →
      ArePlane own_header p (plane_shown num h p (plane_of t p))
  plane_is place p t few stands e =
      let held = held_same num h slots head p _ (plane_of t p) (stands.planes p (plane_of t p) few (ap (option_map (λ (t : Slot T). plane_of t p)) e)) in
      let same = shown_same num h slots head p (plane_of t p) in
      subst (ArePlane own_header p) same
      (plane_held num own_header p (plane_of t p) (subst (λ (xs : List ℕ). HoldsPlane num own_header p xs (plane_of t p)) (sym same) held))

  -- what a slot that is read shows
  record IsShown (s : ℕ) : Type 0 where
    place : ℕ
    slot : Slot T
    stands : IsKeptAt num h fi place
    at : slice_index_or fi.slots place None ≡ Some slot
    shows : slot_of slots s ≡ Some (planes_shown num h slot.y slot.u slot.v)

  is_shown : (s : ℕ) → s < 8 → is_read head.slots slots s ≡ true → IsShown s
  is_shown s lt read =
      let (names, filled) = and_parts (is_named head.slots s) (is_some (slot_of slots s)) read in
      let (place, at) = place_of num h fi (slice_index_or places s None) (sym (ap is_some (slot_shown num h fi places s lt)) ∙ filled) in
      let stands = keeps.kept s place lt at in
      let (t, t_is) = filled_planes (slice_index_or fi.slots place None) stands.filled in
      record {
        place = place;
        slot = t;
        stands = stands;
        at = t_is;
        shows = slot_shown num h fi places s lt ∙ ap (shown_in num h fi) at ∙ ap (option_map (λ (t : Slot T). planes_shown num h t.y t.u t.v)) t_is;
      }

  listed_read : (s : ℕ) → s < 8 → is_read head.slots slots s ≡ true → IsListedSlot own_header s (slot_of slots s)
  listed_read s lt read =
      let a = is_shown s lt read in
      let t = a.slot in
      subst (IsListedSlot own_header s) (sym a.shows) (
        mask_is h slots head s lt ∙ read,
        record {
          y = plane_shown num h 0 t.y;
          u = plane_shown num h 1 t.u;
          v = plane_shown num h 2 t.v;
          are = refl;
          y_is = plane_is a.place 0 t (omega arith) a.stands a.at;
          u_is = plane_is a.place 1 t (omega arith) a.stands a.at;
          v_is = plane_is a.place 2 t (omega arith) a.stands a.at;
        },
      )

  listed_at : (s : ℕ) → s < 8 → (b : Bool) → is_read head.slots slots s ≡ b → IsListedSlot own_header s (if b then slot_of slots s else None)
  listed_at s lt true e = listed_read s lt e
  listed_at s lt false e = mask_is h slots head s lt ∙ e

  listed : AreListedSlots own_header (frame_references slots head)
  listed s lt = subst (IsListedSlot own_header s) (sym (get_or-by_index 8 (λ s. if is_read head.slots slots s then slot_of slots s else None) s None lt))
      (listed_at s lt (is_read head.slots slots s) refl)

  -- what the part of a frame spells behind them is a plan
  pub frame_spelled : IsHead head → (part : List ℕ) (plan : PlanValue) → AreText (plan_behind own_header (frame_references slots head)) part plan →
      IsSpelled grammar plan
  frame_spelled is part plan (vs, spells, bytes) =
      plan_listed own_header (frame_references slots head) plan (read_header h slots head keeps.frame is)
      (length-by_index 8 (λ s. if is_read head.slots slots s then slot_of slots s else None)) listed (record { values = vs; spells = spells })
