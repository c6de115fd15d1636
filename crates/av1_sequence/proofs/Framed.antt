-- What a call does with a frame, seen from what the sequence keeps in memory.
use Rattle.std.proofs.Common.{ℕ, ◌+◌, ◌*◌, ◌/◌, ◌<◌, ◌≤◌, ◌≡◌, ◌∙◌, ◌^◌, true, false, Bool, List, [], length, Option, Some, None, Result, Ok, Err, refl, ap}
use Rattle.std.proofs.Common.{sym}
use Rattle.std.proofs.Common.{subst, slice_index_or, if◌then◌else◌, IfSome}
use Rattle.std.specs.Prelude.{OnOk}
use Rattle.std.specs.Option.{option_map}
use Rattle.std.proofs.Math.Nat.{zero-div}
use Rattle.std.proofs.lemmas.Option.{same_Some}
use Rattle.av1_frame.specs.declared.frame_invariants.FrameInvariants.{FrameInvariants}
use Rattle.av1_frame.specs.declared.plane.Plane.{Plane}
use Rattle.av1_frame.specs.declared.slots.Slot.{Slot}
use Rattle.av1_lists.specs.Lists.{by_index}
use Rattle.av1_lists.proofs.Lists.{by_index-same, get_or-by_index}
use Rattle.av1_plan.specs.declared.header.Header.{Header}
use Rattle.av1_plan.specs.Geometry.{shown_columns, coded_width, coded_height}
use Rattle.av1_plan.specs.Grammar.{plan as grammar, superblocks}
use Rattle.av1_plan.specs.Lengths.{slot_bytes}
use Rattle.av1_plan.specs.Plan.{LeafValue, PlanValue}
use Rattle.av1_plan.specs.ReadPlans.{IsReadFrame}
use Rattle.av1_plan.specs.Spelling.{AreText, IsSpelled}
use Rattle.av1_plan.specs.Validity.{fault_from, first_fault}
use Rattle.av1_tile.specs.Motion.{ServesPlan}
use Rattle.av1_tile.specs.declared.planes.Planes.{Planes}
use Rattle.av1_tile.specs.Memory.{HasRoomFor, IsPlanOver, ShowsPlan, WalkRoom}
use Rattle.av1_tile.specs.Walk.{SameLayout, StoresAll}
use Rattle.av1_sequence.specs.declared.error.FrameError.{FrameError}
use Rattle.av1_sequence.specs.declared.head.FrameHead.{FrameHead}
use Rattle.av1_sequence.specs.declared.last.Last.{Last}
use Rattle.av1_sequence.specs.declared.last.Last.TheVariants as lasts
use Rattle.av1_sequence.specs.declared.sequence.SequenceOf.TheInside.{Inside}
use Rattle.av1_sequence.specs.Frames.{IsFramePlan, IsHead, frame_header, frame_of, frame_references, most_bytes, plan_bytes}
use Rattle.av1_sequence.specs.Kept.{AreReady, IsKeptAt, KeepsFrames, Kept, plane_shown, planes_shown, shown_at, shown_in, slots_shown}
use Rattle.av1_sequence.specs.Last.{last_shown}
use Rattle.av1_sequence.specs.Outcomes.{Accepts, Refuses, RefusesPart, accepted, plan_over, shown_again}
use Rattle.av1_sequence.specs.Output.{IsWritable}
use Rattle.av1_sequence.specs.Slots.{Frame, Slots, count_of, has_bit, is_read, refreshed, row_in, slot_of}
use Rattle.av1_sequence.proofs.Answered.{accepts, part_text, refused_part}
use Rattle.av1_sequence.proofs.Listed.{frame_spelled}
use Rattle.av1_sequence.proofs.Ready.{frame_shown, ready_after, ready_in, ready_out}
use Rattle.av1_sequence.proofs.Serving.{read_header, slot_shown}
use Rattle.av1_sequence.proofs.Shown.{filled_planes}

-- ---- slots that no frame replaces

no_bit : (s : ℕ) → has_bit 0 s ≡ false
unfolding has_bit
no_bit s = rw (zero-div (2 ^ s)) refl

pub none_replaced : (f : ℕ → Option Frame) (refresh : ℕ) (frame : Frame) → refresh ≡ 0 → by_index 8 f ≡ refreshed (by_index 8 f) refresh frame
none_replaced f refresh frame none =
    by_index-same 8 f (λ s. if has_bit refresh s then Some frame else slot_of (by_index 8 f) s)
    (λ s lt. sym (get_or-by_index 8 f s None lt)
    ∙ ap (λ (b : Bool). if b then Some frame else slot_of (by_index 8 f) s) (sym (ap (λ (n : ℕ). has_bit n s) none ∙ no_bit s)))

-- ---- what is seen of a sequence

abbrev kept_of : Header → Slots → Option Frame → Kept
kept_of h slots last = record { frames = h; slots = slots; last = last }

kept_same : (h1 : Header) (s1 : Slots) (l1 : Option Frame) (h2 : Header) (s2 : Slots) (l2 : Option Frame) → h1 ≡ h2 → s1 ≡ s2 → l1 ≡ l2 →
    kept_of h1 s1 l1 ≡ kept_of h2 s2 l2
kept_same h1 s1 l1 h2 s2 l2 a b c = ap (λ (x : Header). kept_of x s1 l1) a ∙ ap (λ (x : Slots). kept_of h2 x l1) b
    ∙ ap (λ (x : Option Frame). kept_of h2 s2 x) c

abbrev seen : {T : Type 0} → (T → ℕ) → Header → FrameInvariants T → List (Option ℕ) → Option Frame → Kept
seen num h fi places last = record { frames = h; slots = slots_shown num h fi places; last = last }

-- of one that was opened, whose fields these are
abbrev opened : {T C : Type 0} {g : _} {ord : _} {eq : _} {partial : _} {coeff : _} → Inside T C g ord eq partial coeff → Kept
opened {T} {C} {g} s = seen g.num s.pictures.header s.pictures.fi s.pictures.places (last_shown g.num s.pictures.header s.pictures.fi s.apart s.last)

module _ {T C : Type 0} {g : _} {ord : _} {eq : _} {partial : _} {coeff : _} (k : Kept) (s : Inside T C g ord eq partial coeff) (view : opened s ≡ k) where
  abbrev h : Header
  h = s.pictures.header

  abbrev fi : FrameInvariants T
  fi = s.pictures.fi

  abbrev places : List (Option ℕ)
  places = s.pictures.places

  abbrev last : Option Frame
  last = last_shown g.num h fi s.apart s.last

  header_seen : h ≡ k.frames
  header_seen = ap (λ (v : Kept). v.frames) view

  slots_seen : slots_shown g.num h fi places ≡ k.slots
  slots_seen = ap (λ (v : Kept). v.slots) view

  module _ (head : FrameHead) where
    own_seen : frame_header h (slots_shown g.num h fi places) head ≡ frame_header k.frames k.slots head
    own_seen = ap (λ (v : Kept). frame_header v.frames v.slots head) view

    references_seen : frame_references (slots_shown g.num h fi places) head ≡ frame_references k.slots head
    references_seen = ap (λ (v : Kept). frame_references v.slots head) view

    -- the plan is no longer than it may be
    pub short_seen : (part : List ℕ) (n len : ℕ) → n ≡ count_of (is_read head.slots (slots_shown g.num h fi places)) 8 * slot_bytes h → len ≡ length part →
        20 + n + len ≤ 2 ^ 26 → plan_bytes k.frames k.slots head part ≤ most_bytes
    short_seen part n len n_is len_is le =
        subst (λ (v : Kept). plan_bytes v.frames v.slots head part ≤ most_bytes) view
        (let same : 20 + count_of (is_read head.slots (slots_shown g.num h fi places)) 8 * slot_bytes h + length part ≡ 20 + n + len = rw (n_is, len_is) refl
        in subst (λ (m : ℕ). m ≤ 2 ^ 26) (sym same) le)

    -- what a part is refused for
    pub refused_over : (own_h : Header) (part : List ℕ) → own_h ≡ frame_header h (slots_shown g.num h fi places) head → (e : FrameError) →
        plan_bytes k.frames k.slots head part ≤ most_bytes
        → RefusesPart own_h part e → Refuses k head part e
    refused_over own_h part own_is e short why =
        refused_part k head part e short (subst (λ (x : Header). RefusesPart x part e) (own_is ∙ own_seen) why)

    module _ (own_h : Header) (part : List ℕ) (ls : List LeafValue) (own_is : own_h ≡ frame_header h (slots_shown g.num h fi places) head) where
      -- the leaves of a part are a plan over what is seen
      pub text_over : AreText (superblocks own_h) part ls → IsFramePlan k.frames k.slots head part (plan_over k head ls)
      text_over found = part_text k head part ls (subst (λ (x : Header). AreText (superblocks x) part ls) (own_is ∙ own_seen) found)

      pub valid_over : fault_from own_h 0 ls ≡ None → first_fault (plan_over k head ls) ≡ None
      valid_over valid = subst (λ (x : Header). fault_from x 0 ls ≡ None) (own_is ∙ own_seen) valid

      pub spelled_over : IsHead head → AreText (superblocks own_h) part ls → ∥ IsSpelled grammar (plan_over k head ls) ∥₁
      spelled_over is found =
          subst (λ (v : Kept). ∥ IsSpelled grammar (plan_over v head ls) ∥₁) view
          ∣ frame_spelled g.num h fi places head s.pictures.keeps is part (plan_over (seen g.num h fi places last) head ls)
          (part_text (seen g.num h fi places last) head part ls (subst (λ (x : Header). AreText (superblocks x) part ls) own_is found)) ∣₁

      -- what follows for an answer
      pub accepts_over : (new : Kept) (r : Result (Unit {0}) FrameError) → plan_bytes k.frames k.slots head part ≤ most_bytes →
          AreText (superblocks own_h) part ls → fault_from own_h 0 ls ≡ None → OnOk r (new ≡ accepted k head (plan_over k head ls)) →
          OnOk r (Accepts k head part new)
      accepts_over new (Ok u) short found valid is = accepts k new head part (plan_over k head ls) short (text_over found) (valid_over valid) is
      accepts_over new (Err e) short found valid is = tt

    -- the frame's own header
    pub own_read : IsHead head → (own_h : Header) → own_h ≡ frame_header k.frames k.slots head → IsReadFrame own_h
    own_read is own_h e = subst IsReadFrame (own_seen ∙ sym e) (read_header h (slots_shown g.num h fi places) head s.pictures.keeps.frame is)

    pub own_ready : (own_h : Header) (planes : Planes T) → own_h ≡ frame_header k.frames k.slots head → AreReady g.num h planes → AreReady g.num own_h planes
    own_ready own_h planes e ready =
        subst (λ (x : Header). AreReady g.num x planes) (own_seen ∙ sym e) (ready_in g.num h (slots_shown g.num h fi places) head planes ready)

    -- planes once the frame was reconstructed in them
    pub ready_still : (own_h : Header) (p q : Planes T) → own_h ≡ frame_header k.frames k.slots head → AreReady g.num own_h p → StoresAll g.num own_h q →
        SameLayout p q → AreReady g.num h q
    ready_still own_h p q e ready stores same =
        let back = e ∙ sym own_seen in
        ready_after g.num h (slots_shown g.num h fi places) head p q
        (ready_out g.num h (slots_shown g.num h fi places) head p (subst (λ (x : Header). AreReady g.num x p) back ready))
        (subst (λ (x : Header). StoresAll g.num x q) back stores) same

    pub room_over : (own_h : Header) → own_h ≡ frame_header k.frames k.slots head → HasRoomFor own_h s.memory
    unfolding coded_width coded_height
    room_over own_h e = subst (λ (x : Header). HasRoomFor x s.memory) (own_seen ∙ sym e) s.room

    -- the samples have the frame's depth
    pub depth_over : (own_h : Header) → own_h ≡ frame_header k.frames k.slots head → own_h.depth ≤ g.BITS
    depth_over own_h e = subst (λ (x : Header). x.depth ≤ g.BITS) (own_seen ∙ sym e) s.fits

    -- the plan that is walked
    pub plan_is_over : (own_h : Header) (ls : List LeafValue) (set : FrameInvariants T) → own_h ≡ frame_header k.frames k.slots head →
        ∥ IsSpelled grammar (plan_over k head ls) ∥₁ → first_fault (plan_over k head ls) ≡ None
        → ((plan : PlanValue) → plan.header ≡ frame_header h (slots_shown g.num h fi places) head →
        plan.references ≡ frame_references (slots_shown g.num h fi places) head → ServesPlan g.num plan set)
        → IsPlanOver g.num own_h ls set (plan_over k head ls)
    plan_is_over own_h ls set e spelled valid serves = record {
      spelled = spelled;
      valid = valid;
      header = sym e;
      leaves = refl;
      references = serves (plan_over k head ls) (sym own_seen) (sym references_seen);
    }

    -- and what its planes show then
    pub shown_over : (ls : List LeafValue) (h' : Header) (q : Planes T) → h' ≡ h → ShowsPlan g.num (plan_over k head ls) q →
        planes_shown g.num h' q.y q.u q.v ≡ frame_of (plan_over k head ls)
    shown_over ls h' q e shows = ap (λ (x : Header). planes_shown g.num x q.y q.u q.v) (e ∙ header_seen)
        ∙ frame_shown g.num k.frames k.slots head (plan_over k head ls) q refl shows

    result_is : (h' : Header) (slots' : Slots) (last' : Option Frame) (plan : PlanValue) → h' ≡ k.frames →
        slots' ≡ refreshed k.slots head.refresh (frame_of plan) → last' ≡ Some (frame_of plan)
        → record { frames = h'; slots = slots'; last = last' } ≡ accepted k head plan
    result_is h' slots' last' plan a b c = kept_same h' slots' last' k.frames (refreshed k.slots head.refresh (frame_of plan)) (Some (frame_of plan)) a b c

    -- a frame that replaces no slot
    pub apart_accepted : (ls : List LeafValue) (h' : Header) (set : FrameInvariants T) (places' : List (Option ℕ)) (q : Planes T) → head.refresh ≡ 0 → h' ≡ h →
        slots_shown g.num h' set places' ≡ slots_shown g.num h fi places
        → ShowsPlan g.num (plan_over k head ls) q → seen g.num h' set places' (Some (planes_shown g.num h' q.y q.u q.v)) ≡ accepted k head (plan_over k head ls)
    apart_accepted ls h' set places' q none e same shows =
        result_is h' (slots_shown g.num h' set places') (Some (planes_shown g.num h' q.y q.u q.v)) (plan_over k head ls) (e ∙ header_seen)
        (same ∙ none_replaced (λ s. shown_in g.num h fi (slice_index_or places s None)) head.refresh (frame_of (plan_over k head ls)) none
        ∙ ap (λ (ss : Slots). refreshed ss head.refresh (frame_of (plan_over k head ls))) slots_seen)
        (ap Some (shown_over ls h' q e shows))

    -- a frame that replaces some
    pub kept_accepted : (ls : List LeafValue) (h1 h2 : Header) (set made : FrameInvariants T) (places1 places2 : List (Option ℕ)) (place : ℕ) (q : Planes T) →
        h1 ≡ h → h2 ≡ h1 → slots_shown g.num h1 set places1 ≡ slots_shown g.num h fi places
        → slots_shown g.num h2 made places2 ≡ refreshed (slots_shown g.num h1 set places1) head.refresh (planes_shown g.num h1 q.y q.u q.v) →
        shown_at g.num h2 made place ≡ Some (planes_shown g.num h1 q.y q.u q.v)
        → ShowsPlan g.num (plan_over k head ls) q → seen g.num h2 made places2 (shown_at g.num h2 made place) ≡ accepted k head (plan_over k head ls)
    kept_accepted ls h1 h2 set made places1 places2 place q e1 e2 same kept shown shows =
        let f = shown_over ls h1 q e1 shows in
        result_is h2 (slots_shown g.num h2 made places2) (shown_at g.num h2 made place) (plan_over k head ls) (e2 ∙ e1 ∙ header_seen)
        (kept ∙ ap (λ (ss : Slots). refreshed ss head.refresh (planes_shown g.num h1 q.y q.u q.v)) (same ∙ slots_seen)
        ∙ ap (λ (x : Frame). refreshed k.slots head.refresh x) f)
        (shown ∙ ap Some f)

  -- ---- rows

  abbrev row_of : Header → (p y : ℕ) → Frame → List ℕ
  row_of f p y frame = row_in (shown_columns f p) (slice_index_or frame p []) y

  moved_row : (o : Option (List ℕ)) (p y : ℕ) → (see : Kept → Option Frame) → o ≡ option_map (row_of h p y) (see (seen g.num h fi places last)) →
      o ≡ option_map (row_of k.frames p y) (see k)
  moved_row o p y see e = subst (λ (v : Kept). o ≡ option_map (row_of v.frames p y) (see v)) view e

  -- a plane that shows its part of the last frame
  pub plane_seen : (p : ℕ) (plane : Plane T) (frame : Frame) → last ≡ Some frame → plane_shown g.num h p plane ≡ slice_index_or frame p []
      → Some (plane_shown g.num k.frames p plane) ≡ option_map (λ (f : Frame). slice_index_or f p []) k.last
  plane_seen p plane frame is shows =
      subst (λ (v : Kept). Some (plane_shown g.num v.frames p plane) ≡ option_map (λ (f : Frame). slice_index_or f p []) v.last) view
      (ap Some shows ∙ sym (ap (option_map (λ (f : Frame). slice_index_or f p [])) is))

  -- the same of a frame at a place
  pub placed_seen : (place p : ℕ) (plane : Plane T) → s.last ≡ lasts.At place →
      ((frame : Frame) → shown_at g.num h fi place ≡ Some frame → plane_shown g.num h p plane ≡ slice_index_or frame p [])
      → Some (plane_shown g.num k.frames p plane) ≡ option_map (λ (f : Frame). slice_index_or f p []) k.last
  placed_seen place p plane at shows =
      let (t, t_is) = filled_planes (slice_index_or fi.slots place None) (s.placed place at).filled in
      let here : shown_at g.num h fi place ≡ Some (planes_shown g.num h t.y t.u t.v) =
      ap (option_map (λ (t : Slot T). planes_shown g.num h t.y t.u t.v)) t_is in
      plane_seen p plane (planes_shown g.num h t.y t.u t.v) (ap (last_shown g.num h fi s.apart) at ∙ here) (shows (planes_shown g.num h t.y t.u t.v) here)

  pub writable_seen : (p : ℕ) (plane : Plane T) → IsWritable h p plane → IsWritable k.frames p plane
  writable_seen p plane w = subst (λ (x : Header). IsWritable x p plane) header_seen w

  pub slot_seen : (slot place p y : ℕ) (row : List ℕ) → slot < 8 → slice_index_or places slot None ≡ Some place →
      ((frame : Frame) → shown_at g.num h fi place ≡ Some frame → row ≡ row_of h p y frame)
      → Some row ≡ option_map (row_of k.frames p y) (slice_index_or k.slots slot None)
  slot_seen slot place p y row lt at row_is =
      let stands = s.pictures.keeps.kept slot place lt at in
      let (t, t_is) = filled_planes (slice_index_or fi.slots place None) stands.filled in
      let shows : shown_at g.num h fi place ≡ Some (planes_shown g.num h t.y t.u t.v) =
      ap (option_map (λ (t : Slot T). planes_shown g.num h t.y t.u t.v)) t_is in
      moved_row (Some row) p y (λ v. slice_index_or v.slots slot None)
      (ap Some (row_is (planes_shown g.num h t.y t.u t.v) shows)
      ∙ sym (ap (option_map (row_of h p y)) (slot_shown g.num h fi places slot lt ∙ ap (shown_in g.num h fi) at ∙ shows)))

  -- ---- a frame that is shown again

  -- the frame of a slot that has a place stands in the slots that are said, and is the last one
  pub slot_again : (slot place refresh : ℕ) → slot < 8 → slice_index_or places slot None ≡ Some place → (h' : Header) (fi' : FrameInvariants T)
      (places' : List (Option ℕ)) → h' ≡ h → fi' ≡ fi
      → ((frame : Frame) → shown_at g.num h fi place ≡ Some frame → slots_shown g.num h' fi' places' ≡ refreshed (slots_shown g.num h fi places) refresh frame)
      → (frame : Frame) × (slot_of k.slots slot ≡ Some frame) × (seen g.num h' fi' places' (shown_at g.num h' fi' place) ≡ shown_again k refresh frame)
  slot_again slot place refresh lt at h' fi' places' h_is fi_is slots_are =
      let (t, t_is) = filled_planes (slice_index_or fi.slots place None) (s.pictures.keeps.kept slot place lt at).filled in
      let frame = planes_shown g.num h t.y t.u t.v in
      let here : shown_at g.num h fi place ≡ Some frame = ap (option_map (λ (t : Slot T). planes_shown g.num h t.y t.u t.v)) t_is in
      let last' : shown_at g.num h' fi' place ≡ Some frame =
      ap (λ (x : Header). shown_at g.num x fi' place) h_is ∙ ap (λ (f : FrameInvariants T). shown_at g.num h f place) fi_is ∙ here in (
        frame,
        sym (ap (λ (v : Kept). slot_of v.slots slot) view) ∙ slot_shown g.num h fi places slot lt ∙ ap (shown_in g.num h fi) at ∙ here,
        kept_same h' (slots_shown g.num h' fi' places') (shown_at g.num h' fi' place) k.frames (refreshed k.slots refresh frame) (Some frame)
            (h_is ∙ header_seen) (slots_are frame here ∙ ap (λ (ss : Slots). refreshed ss refresh frame) slots_seen) last',
      )

-- the last frame, where it stands apart
pub last_apart : {T : Type 0} (num : T → ℕ) (h : Header) (fi : FrameInvariants T) (apart : Option (Planes T)) (l : Last) (planes : Planes T) →
    l ≡ lasts.Apart → apart ≡ Some planes →
    last_shown num h fi apart l ≡ Some (planes_shown num h planes.y planes.u planes.v)
last_apart {T} num h fi apart l planes l_is is = ap (last_shown num h fi apart) l_is ∙ ap (λ (a : Option (Planes T)). last_shown num h fi a lasts.Apart) is

pub not_placed : {P : Type 0} (place : ℕ) → lasts.Apart ≡ lasts.At place → P
not_placed place e = absurd cc

-- the memory of the walk has room still
pub room_still : (h h' : Header) (m m' : WalkRoom) → h' ≡ h → m'.cells ≡ m.cells → HasRoomFor h m → HasRoomFor h' m'
room_still h h' m m' e cells has =
    subst (λ (x : Header). HasRoomFor x m') (sym e) (subst (λ (n : ℕ). coded_height h / 4 * (coded_width h / 4) ≤ n) (sym cells) has)

-- and the samples the depth
pub depth_still : (h h' : Header) (bits : ℕ) → h' ≡ h → h.depth ≤ bits → h'.depth ≤ bits
depth_still h h' bits e le = subst (λ (x : Header). x.depth ≤ bits) (sym e) le

-- planes that are held as one of them
pub ready_held : {T : Type 0} (num : T → ℕ) (h h' : Header) (q : Planes T) → h' ≡ h → AreReady num h q → (planes : Planes T) → Some q ≡ Some planes →
    AreReady num h' planes
ready_held {T} num h h' q e ready planes is =
    subst (λ (p : Planes T). AreReady num h' p) (same_Some _ _ is) (subst (λ (x : Header). AreReady num x q) (sym e) ready)

-- planes that stand ready for a later frame
pub ready_again : {T : Type 0} (num : T → ℕ) (h h' : Header) (o : Option (Planes T)) → h' ≡ h → IfSome o (AreReady num h) → (planes : Planes T) →
    o ≡ Some planes → AreReady num h' planes
ready_again num h h' None e ready planes is = absurd cc
ready_again num h h' (Some q) e ready planes is = ready_held num h h' q e ready planes is

-- planes that stood ready before
pub ready_still_held : {T : Type 0} (num : T → ℕ) (h h' : Header) (o : Option (Planes T)) → h' ≡ h →
    ((planes : Planes T) → o ≡ Some planes → AreReady num h planes) → (planes : Planes T) → o ≡ Some planes → AreReady num h' planes
ready_still_held num h h' o e ready planes is = subst (λ (x : Header). AreReady num x planes) (sym e) (ready planes is)

-- a frame that is kept as before
pub stands_still : {T : Type 0} (num : T → ℕ) (h h' : Header) (settings settings' : FrameInvariants T) (place : ℕ) → h' ≡ h → settings' ≡ settings →
    IsKeptAt num h settings place →
    IsKeptAt num h' settings' place
stands_still {T} num h h' settings settings' place e same stands =
    subst (λ (x : Header). IsKeptAt num x settings' place) (sym e) (subst (λ (f : FrameInvariants T). IsKeptAt num h f place) (sym same) stands)

pub not_apart : {P : Type 0} (place : ℕ) → lasts.At place ≡ lasts.Apart → P
not_apart place e = absurd cc

same_place : (a b : ℕ) → lasts.At a ≡ lasts.At b → a ≡ b
same_place a b e = cc

pub placed_there : {T : Type 0} (num : T → ℕ) (h : Header) (fi : FrameInvariants T) (a b : ℕ) → IsKeptAt num h fi a → lasts.At a ≡ lasts.At b →
    IsKeptAt num h fi b
placed_there num h fi a b kept e = subst (IsKeptAt num h fi) (same_place a b e) kept

-- ---- a frame that is shown again

-- the slots once the frame at a place stands in these, too
pub also_shown : {T : Type 0} (num : T → ℕ) (h : Header) (settings : FrameInvariants T) (held replaced : List (Option ℕ)) (refresh place : ℕ) →
    ((s : ℕ) → s < 8 → has_bit refresh s ≡ true → slice_index_or replaced s None ≡ Some place)
    → ((s : ℕ) → s < 8 → has_bit refresh s ≡ false → slice_index_or replaced s None ≡ slice_index_or held s None)
    → (frame : Frame) → shown_at num h settings place ≡ Some frame →
    slots_shown num h settings replaced ≡ refreshed (slots_shown num h settings held) refresh frame
also_shown num h settings held replaced refresh place new old frame is =
    by_index-same 8 (λ s. shown_in num h settings (slice_index_or replaced s None))
    (λ s. if has_bit refresh s then Some frame else slot_of (slots_shown num h settings held) s)
    (λ s lt. go s lt (has_bit refresh s) refl)
  where
    go : (s : ℕ) → s < 8 → (b : Bool) → has_bit refresh s ≡ b →
        shown_in num h settings (slice_index_or replaced s None) ≡ (if b then Some frame else slot_of (slots_shown num h settings held) s)
    go s lt true e = ap (shown_in num h settings) (new s lt e) ∙ is
    go s lt false e = ap (shown_in num h settings) (old s lt e) ∙ sym (slot_shown num h settings held s lt)

-- and the frames at their held
pub also_kept : {T : Type 0} (num : T → ℕ) (h : Header) (settings : FrameInvariants T) (held replaced : List (Option ℕ)) (refresh place : ℕ) →
    KeepsFrames num h settings held → IsKeptAt num h settings place → length replaced ≡ 8
    → ((s : ℕ) → s < 8 → has_bit refresh s ≡ true → slice_index_or replaced s None ≡ Some place)
    → ((s : ℕ) → s < 8 → has_bit refresh s ≡ false → slice_index_or replaced s None ≡ slice_index_or held s None)
    → KeepsFrames num h settings replaced
also_kept num h settings held replaced refresh place keeps stands eight new old = record {
  frame = keeps.frame;
  depth = keeps.depth;
  count = keeps.count;
  eight = eight;
  kept = λ s q lt is. go s q lt (has_bit refresh s) refl is;
  again = keeps.again;
}
  where
    go : (s q : ℕ) → s < 8 → (b : Bool) → has_bit refresh s ≡ b → slice_index_or replaced s None ≡ Some q → IsKeptAt num h settings q
    go s q lt true e is = subst (IsKeptAt num h settings) (same_Some _ _ (sym (new s lt e) ∙ is)) stands
    go s q lt false e is = keeps.kept s q lt (sym (old s lt e) ∙ is)
