-- Frames that are kept at places serve the plan of the next frame, once its references name these places.
use Rattle.std.proofs.Common.{ℕ, zero, suc, ◌-◌, ◌<◌, ◌≡◌, ◌∙◌, true, Bool, List, [], length, get_or, Option, Some, None, refl, ap, sym, subst}
use Rattle.std.proofs.Common.{arith, inl, inr}
use Rattle.std.proofs.Common.{slice_index, slice_index_or, is_some, replicate, if◌then◌else◌, ltb}
use Rattle.std.specs.Prelude.{◌&&◌, unwrap_or}
use Rattle.std.specs.Option.{option_map}
use Rattle.std.proofs.lemmas.Bool.{and_parts, cases_lt, ltb-true}
use Rattle.std.proofs.lemmas.List.{get_or_past, get_or-replicate, length-replicate}
use Rattle.std.proofs.lemmas.Option.{none-some, same_Some}
use Rattle.av1_blocks.specs.declared.partition.RefType.{RefType}
use Rattle.av1_blocks.specs.Depths.{IsDepth}
use Rattle.av1_blocks.specs.References.{reference_number}
use Rattle.av1_frame.specs.declared.frame_invariants.FrameInvariants.{FrameInvariants}
use Rattle.av1_frame.specs.declared.plane.Plane.{Plane}
use Rattle.av1_frame.specs.declared.slots.Slot.{Slot}
use Rattle.av1_frame.specs.Frames.{plane_of, slot_plane}
use Rattle.av1_inter.specs.Reference.{slot_of as place_named}
use Rattle.av1_lists.proofs.Lists.{get_or-by_index}
use Rattle.av1_plan.specs.declared.header.Header.{Header}
use Rattle.av1_plan.specs.Geometry.{coded_width, coded_height, follows_av1, has_slot}
use Rattle.av1_plan.specs.Plan.{LeafValue, PlanValue, carried_plane}
use Rattle.av1_plan.specs.ReadPlans.{IsReadFrame}
use Rattle.av1_plan.specs.Validity.{has_reference}
use Rattle.av1_tile.specs.Motion.{HoldsPlane, ServesPlan, slot_in, slot_samples}
use Rattle.av1_tile.proofs.Served.{offered}
use Rattle.av1_sequence.specs.declared.head.FrameHead.{FrameHead}
use Rattle.av1_sequence.specs.Frames.{IsHead, frame_header, frame_references}
use Rattle.av1_plan.proofs.ReadFrames.{depth_is}
use Rattle.av1_sequence.specs.Kept.{AreFrames, IsKeptAt, KeepsFrames, plane_shown, planes_shown, shown_in, slots_shown}
use Rattle.av1_sequence.specs.Slots.{Frame, Slots, is_named, is_read, slot_of}
use Rattle.av1_sequence.proofs.Bits.{bit_is, bits_small}
use Rattle.av1_sequence.proofs.Shown.{filled_planes, held_same, place_of, some_mapped}

-- a slot of a list that is told by number
pub slot_shown : {T : Type 0} (num : T → ℕ) (h : Header) (fi : FrameInvariants T) (places : List (Option ℕ)) (s : ℕ) → s < 8 →
    slot_of (slots_shown num h fi places) s ≡ shown_in num h fi (slice_index_or places s None)
slot_shown num h fi places s lt = get_or-by_index 8 (λ s. shown_in num h fi (slice_index_or places s None)) s None lt

-- the slots of a frame's mask are those that it reads
pub mask_is : (h : Header) (slots : Slots) (head : FrameHead) (s : ℕ) → s < 8 → has_slot (frame_header h slots head) s ≡ is_read head.slots slots s
unfolding has_slot
mask_is h slots head s lt = bit_is (is_read head.slots slots) s lt

-- the header of a frame's plan lies in its ranges
pub read_header : (h : Header) (slots : Slots) (head : FrameHead) → AreFrames h → IsHead head → IsReadFrame (frame_header h slots head)
unfolding coded_width coded_height
read_header h slots head is own_head = record {
  least_version = is.least_version;
  most_version = is.most_version;
  width = is.width;
  height = is.height;
  shown_width = is.shown_width;
  shown_height = is.shown_height;
  depth = depth_is h.depth is.depth;
  sampling = is.sampling;
  filter = own_head.filter;
  slots = own_head.slots;
  mask = bits_small (is_read head.slots slots);
}

-- a reference that a header has stands in one of its seven places
named_within : (slots : List ℕ) (i : ℕ) → length slots ≡ 7 → get_or slots i 8 < 8 → i < 7
named_within slots i seven below =
    elim (cases_lt i 7) [ inl lt ↦ lt | inr le ↦ absurd (omega (arith, below, get_or_past slots i 8 (omega (arith, seven, le)))) ]

-- the samples of a slot, where it has planes
reference_is : (v : PlanValue) (s p : ℕ) (planes : Frame) → slice_index_or v.references s None ≡ Some planes →
    carried_plane v s p ≡ Some (slice_index_or planes p [])
reference_is v s p planes e = rw e refl

pub plane_listed : {T : Type 0} (num : T → ℕ) (h : Header) (t : Slot T) (p : ℕ) → p < 3 →
    slice_index_or (planes_shown num h t.y t.u t.v) p [] ≡ plane_shown num h p (plane_of t p)
plane_listed num h t zero few = refl
plane_listed num h t (suc zero) few = refl
plane_listed num h t (suc (suc zero)) few = refl
plane_listed num h t (suc (suc (suc p))) few = absurd (omega (arith, few))

chosen : (b : Bool) (o : Option Frame) → b ≡ true → (if b then o else None) ≡ o
chosen b o e = rw e refl

module _ {T : Type 0} (num : T → ℕ) (h : Header) (fi new : FrameInvariants T) (places : List (Option ℕ)) (head : FrameHead)
    (keeps : KeepsFrames num h fi places) (is : IsHead head)
    (leaves : List LeafValue)
    (kept : new.slots ≡ fi.slots) (depth : new.bit_depth ≡ fi.bit_depth) (filter : new.default_filter ≡ head.filter) (short : new.short_by_av1 ≡ follows_av1 h)
    (named : (i place : ℕ) → i < 7 → slice_index_or places (slice_index head.slots i) None ≡ Some place → slice_index new.ref_frames i ≡ place) where
  abbrev slots : Slots
  slots = slots_shown num h fi places

  abbrev value : PlanValue
  value = record { header = frame_header h slots head; references = frame_references slots head; leaves = leaves }

  -- where the frame of a reference is kept
  record IsPlaced (reference : RefType) : Type 0 where
    place : ℕ
    below : slot_in value.header reference < 8
    at : slice_index_or places (slot_in value.header reference) None ≡ Some place
    names : place_named new reference ≡ place
    read : is_read head.slots slots (slot_in value.header reference) ≡ true
    stands : IsKeptAt num h fi place

  placed : (reference : RefType) → has_reference value.header reference ≡ true → IsPlaced reference
  unfolding has_reference
  placed reference has =
      let o = offered value.header reference has in
      let i = reference_number reference - 1 in
      let s = slot_in value.header reference in
      let (below, carried) = and_parts (ltb (get_or head.slots i 8) 8) (has_slot value.header (get_or head.slots i 8)) has in
      let within : i < 7 = named_within head.slots i is.slots.count (ltb-true _ _ below) in
      let read : is_read head.slots slots s ≡ true = sym (mask_is h slots head s o.slot) ∙ o.carried in
      let (names, filled) = and_parts (is_named head.slots s) (is_some (slot_of slots s)) read in
      let (place, at) = place_of num h fi (slice_index_or places s None) (sym (ap is_some (slot_shown num h fi places s o.slot)) ∙ filled) in
      record { place = place; below = o.slot; at = at; names = named i place within at; read = read; stands = keeps.kept s place o.slot at }

  -- the samples of its slot are those that its planes show
  samples_are : (reference : RefType) (p : ℕ) (plane : Plane T) (at : IsPlaced reference) → p < 3 → slot_plane fi at.place p ≡ Some plane →
      slot_samples value (slot_in value.header reference) p ≡ plane_shown num h p plane
  samples_are reference p plane at few e =
      let s = slot_in value.header reference in
      let (t, t_is) = filled_planes (slice_index_or fi.slots at.place None) at.stands.filled in
      let frame : slice_index_or (frame_references slots head) s None ≡ Some (planes_shown num h t.y t.u t.v) =
      get_or-by_index 8 (λ s. if is_read head.slots slots s then slot_of slots s else None) s None at.below
      ∙ chosen (is_read head.slots slots s) (slot_of slots s) at.read
      ∙ slot_shown num h fi places s at.below ∙ ap (shown_in num h fi) at.at ∙ ap (option_map (λ (t : Slot T). planes_shown num h t.y t.u t.v)) t_is in
      let own_plane : plane_of t p ≡ plane = same_Some _ _ (sym (ap (option_map (λ (t : Slot T). plane_of t p)) t_is) ∙ e) in
      ap (λ (o : Option (List ℕ)). unwrap_or o []) (reference_is value s p (planes_shown num h t.y t.u t.v) frame) ∙ plane_listed num h t p few
      ∙ ap (plane_shown num h p) own_plane

  pub serves : ServesPlan num value new
  serves = record {
    settings = record { depth = depth ∙ keeps.depth; filter = filter; short_by_av1 = short };
    depth = subst IsDepth (sym (depth ∙ keeps.depth)) (depth_is h.depth keeps.frame.depth);
    named = λ reference has. let d = placed reference has in omega (arith, d.names, d.stands.below);
    filled = λ reference p has few.
        let d = placed reference has in
        ap (λ (n : ℕ). is_some (slot_plane new n p)) d.names ∙ some_mapped (λ (t : Slot T). plane_of t p) (slice_index_or new.slots d.place None)
        ∙ ap (λ (ts : List (Option (Slot T))). is_some (slice_index_or ts d.place None)) kept ∙ d.stands.filled;
    planes = λ reference p plane has few e.
        let d = placed reference has in
        let there : slot_plane fi d.place p ≡ Some plane =
        sym (ap (λ (ts : List (Option (Slot T))). option_map (λ (t : Slot T). plane_of t p) (slice_index_or ts d.place None)) kept)
        ∙ sym (ap (λ (n : ℕ). slot_plane new n p) d.names) ∙ e in
        subst (λ (samples : List ℕ). HoldsPlane num value.header p samples plane) (sym (samples_are reference p plane d few there))
        (held_same num h slots head p _ plane (d.stands.planes p plane few there));
  }

-- a slot shows a frame where it has a place
pub filled_same : {T : Type 0} (num : T → ℕ) (h : Header) (fi : FrameInvariants T) (places : List (Option ℕ)) → KeepsFrames num h fi places → (s : ℕ) → s < 8 →
    is_some (slot_of (slots_shown num h fi places) s) ≡ is_some (slice_index_or places s None)
filled_same {T} num h fi places keeps s lt = ap is_some (slot_shown num h fi places s lt) ∙ go (slice_index_or places s None) refl
  where
    go : (o : Option ℕ) → slice_index_or places s None ≡ o → is_some (shown_in num h fi o) ≡ is_some o
    go None e = refl
    go (Some place) e = some_mapped (λ (t : Slot T). planes_shown num h t.y t.u t.v) (slice_index_or fi.slots place None) ∙ (keeps.kept s place lt e).filled

-- so a named slot is read there
pub read_there : {T : Type 0} (num : T → ℕ) (h : Header) (fi : FrameInvariants T) (places : List (Option ℕ)) → KeepsFrames num h fi places →
    (named : List ℕ) (s : ℕ) (b : Bool) → s < 8 →
    is_named named s ≡ true → b ≡ is_some (slice_index_or places s None)
    → b ≡ is_read named (slots_shown num h fi places) s
read_there num h fi places keeps named s b lt names is =
    is ∙ sym (filled_same num h fi places keeps s lt) ∙ sym (ap (λ (t : Bool). t && is_some (slot_of (slots_shown num h fi places) s)) names)

-- frames whose settings alone have changed are kept as before
pub keeps_settings : {T : Type 0} (num : T → ℕ) (h : Header) (fi new : FrameInvariants T) (places : List (Option ℕ)) → new.slots ≡ fi.slots →
    new.bit_depth ≡ fi.bit_depth →
    KeepsFrames num h fi places → KeepsFrames num h new places
keeps_settings {T} num h fi new places kept depth keeps = record {
  frame = keeps.frame;
  depth = depth ∙ keeps.depth;
  count = ap length kept ∙ keeps.count;
  eight = keeps.eight;
  kept = λ s place lt e.
      let k = keeps.kept s place lt e in
      record {
        below = k.below;
        filled = ap (λ (ts : List (Option (Slot T))). is_some (slice_index_or ts place None)) kept ∙ k.filled;
        planes =
            λ p plane few is.
            k.planes p plane few (sym (ap (λ (ts : List (Option (Slot T))). option_map (λ (t : Slot T). plane_of t p) (slice_index_or ts place None)) kept)
            ∙ is);
      };
  again = λ place t is. keeps.again place t (sym (ap (λ (ts : List (Option (Slot T))). slice_index_or ts place None) kept) ∙ is);
}

-- nothing stands at a place of a list of none
nothing_there : {X : Type 0} (n i : ℕ) (xs : List (Option X)) → xs ≡ replicate n None → slice_index_or xs i None ≡ None
nothing_there {X} n i xs empty = elim (cases_lt i n) [
  | inl b ↦ ap (λ (ys : List (Option X)). slice_index_or ys i None) empty ∙ get_or-replicate n i None None b
  | inr b ↦ (let count : length xs ≡ n = ap length empty ∙ length-replicate n None in get_or_past xs i None (omega (arith, count, b)))
]

-- no frames
pub keeps_none : {T : Type 0} (num : T → ℕ) (h : Header) (fi : FrameInvariants T) (places : List (Option ℕ)) → AreFrames h → fi.bit_depth ≡ h.depth →
    fi.slots ≡ replicate 8 None →
    places ≡ replicate 8 None → KeepsFrames num h fi places
keeps_none num h fi places is depth empty none = record {
  frame = is;
  depth = depth;
  count = ap length empty;
  eight = ap length none;
  kept = λ s place lt e. absurd (none-some place (sym (nothing_there 8 s places none) ∙ e));
  again = λ place t e. absurd (none-some t (sym (nothing_there 8 place fi.slots empty) ∙ e));
}

-- the settings serve a plan with this header and these references
pub serves_plan : {T : Type 0} (num : T → ℕ) (h : Header) (fi new : FrameInvariants T) (places : List (Option ℕ)) (head : FrameHead) →
    KeepsFrames num h fi places → IsHead head →
    new.slots ≡ fi.slots → new.bit_depth ≡ fi.bit_depth → new.default_filter ≡ head.filter → new.short_by_av1 ≡ follows_av1 h
    → ((i place : ℕ) → i < 7 → slice_index_or places (slice_index head.slots i) None ≡ Some place → slice_index new.ref_frames i ≡ place)
    → (plan : PlanValue) → plan.header ≡ frame_header h (slots_shown num h fi places) head →
    plan.references ≡ frame_references (slots_shown num h fi places) head →
    ServesPlan num plan new
serves_plan num h fi new places head keeps is kept depth filter short named plan eh er =
    subst (λ (v : PlanValue). ServesPlan num v new)
    (plan_is plan (frame_header h (slots_shown num h fi places) head) (frame_references (slots_shown num h fi places) head) eh er)
    (serves num h fi new places head keeps is plan.leaves kept depth filter short named)
  where
    plan_is : (plan : PlanValue) (g : Header) (rs : List (Option Frame)) → plan.header ≡ g → plan.references ≡ rs →
        record { header = g; references = rs; leaves = plan.leaves } ≡ plan
    plan_is plan g rs eh er = rw (sym eh, sym er) refl
