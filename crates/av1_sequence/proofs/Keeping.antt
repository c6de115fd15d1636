-- A frame that is kept at a free place, and the slots that show it.
use Rattle.std.proofs.Common.{ℕ, zero, suc, ◌<◌, ◌≡◌, ◌≢◌, ◌∙◌, true, false, Bool, List, length, Option, Some, None, refl, ap, sym, subst, arith, inl, inr}
use Rattle.std.proofs.Common.{IfSome, slice_index_or, is_some, if◌then◌else◌}
use Rattle.std.specs.Prelude.{slice_set}
use Rattle.std.specs.Option.{option_map}
use Rattle.std.proofs.lemmas.List.{get_or-set_other, get_or-set_same, length-set}
use Rattle.std.proofs.lemmas.Bool.{cases_eq}
use Rattle.std.proofs.lemmas.Option.{same_Some}
use Rattle.av1_frame.specs.declared.frame_invariants.FrameInvariants.{FrameInvariants}
use Rattle.av1_frame.specs.declared.plane.Plane.{Plane}
use Rattle.av1_frame.specs.declared.slots.Slot.{Slot}
use Rattle.av1_frame.specs.Frames.{plane_of}
use Rattle.av1_frame.specs.Planes.{padded}
use Rattle.av1_lists.proofs.Lists.{by_index-same}
use Rattle.av1_plan.specs.declared.header.Header.{Header}
use Rattle.av1_tile.specs.Motion.{HoldsPlane}
use Rattle.av1_tile.specs.declared.planes.Planes.{Planes}
use Rattle.av1_sequence.specs.Kept.{AreFrames, AreReady, IsKeptAt, KeepsFrames, coded_planes, shown_plane, plane_shown, planes_shown, shown_at, shown_in}
use Rattle.av1_sequence.specs.Kept.{slots_shown}
use Rattle.av1_sequence.specs.Slots.{Frame, has_bit, refreshed, slot_of}
use Rattle.av1_sequence.proofs.Serving.{slot_shown}
use Rattle.av1_sequence.proofs.Shown.{kept_holds, kept_shown, kept_stores}

-- what a place shows that was not written to
module _ {T : Type 0} (num : T → ℕ) (h : Header) (fi : FrameInvariants T) (place : ℕ) (slot : Slot T) where
  abbrev written : FrameInvariants T
  written = record fi { slots = slice_set fi.slots place (Some slot) }

  other_kept : (q : ℕ) → q ≢ place → slice_index_or written.slots q None ≡ slice_index_or fi.slots q None
  other_kept q away = get_or-set_other fi.slots place q (Some slot) None away

  other_stands : (q : ℕ) → q ≢ place → IsKeptAt num h fi q → IsKeptAt num h written q
  other_stands q away stands = record {
    below = stands.below;
    filled = ap is_some (other_kept q away) ∙ stands.filled;
    planes = λ p plane few e. stands.planes p plane few (sym (ap (option_map (λ (t : Slot T). plane_of t p)) (other_kept q away)) ∙ e);
  }

  other_shown : (o : Option ℕ) → o ≢ Some place → shown_in num h written o ≡ shown_in num h fi o
  other_shown None away = refl
  other_shown (Some q) away = ap (option_map (λ (t : Slot T). planes_shown num h t.y t.u t.v)) (other_kept q (λ e. away (ap Some e)))

-- what is shown of the planes of a frame, padded
abbrev pub kept_of : {T : Type 0} → Header → Planes T → Slot T
kept_of h planes =
    record { y = padded (shown_plane h 0 planes.y); u = padded (shown_plane h 1 planes.u); v = padded (shown_plane h 2 planes.v) }

module _ {T : Type 0} (num : T → ℕ) (h : Header) (planes : Planes T) (frames : AreFrames h) (ready : AreReady num h planes) where
  abbrev kept_slot : Slot T
  kept_slot = kept_of h planes

  -- it can take a later frame, once what is coded is visible again
  kept_ready : AreReady num h (coded_planes h kept_slot.y kept_slot.u kept_slot.v)
  kept_ready = record {
    stores = record {
      y = kept_stores num h 0 planes.y frames ready.stores.y;
      u = kept_stores num h 1 planes.u frames ready.stores.u;
      v = kept_stores num h 2 planes.v frames ready.stores.v;
    };
    room = record {
      y = record { columns = ready.room.y.columns; rows = ready.room.y.rows };
      u = record { columns = ready.room.u.columns; rows = ready.room.u.rows };
      v = record { columns = ready.room.v.columns; rows = ready.room.v.rows };
    };
    pads = record {
      y = record { columns = ready.pads.y.columns; rows = ready.pads.y.rows };
      u = record { columns = ready.pads.u.columns; rows = ready.pads.u.rows };
      v = record { columns = ready.pads.v.columns; rows = ready.pads.v.rows };
    };
  }

  each_holds : (p : ℕ) → p < 3 → HoldsPlane num h p (plane_shown num h p (plane_of kept_slot p)) (plane_of kept_slot p)
  each_holds zero few = kept_holds num h 0 planes.y frames ready.stores.y ready.pads.y
  each_holds (suc zero) few = kept_holds num h 1 planes.u frames ready.stores.u ready.pads.u
  each_holds (suc (suc zero)) few = kept_holds num h 2 planes.v frames ready.stores.v ready.pads.v
  each_holds (suc (suc (suc p))) few = absurd (omega (arith, few))

  kept_shows : planes_shown num h kept_slot.y kept_slot.u kept_slot.v ≡ planes_shown num h planes.y planes.u planes.v
  kept_shows =
      rw (
        kept_shown num h 0 planes.y frames ready.stores.y,
        kept_shown num h 1 planes.u frames ready.stores.u,
        kept_shown num h 2 planes.v frames ready.stores.v,
      ) refl

  module _ (fi : FrameInvariants T) (places replaced : List (Option ℕ)) (refresh place : ℕ) (keeps : KeepsFrames num h fi places) (below : place < 8)
      (free : (s : ℕ) → s < 8 → has_bit refresh s ≡ false → slice_index_or places s None ≢ Some place)
      (new : (s : ℕ) → s < 8 → has_bit refresh s ≡ true → slice_index_or replaced s None ≡ Some place)
      (old : (s : ℕ) → s < 8 → has_bit refresh s ≡ false → slice_index_or replaced s None ≡ slice_index_or places s None) where
    abbrev after : FrameInvariants T
    after = written num h fi place kept_slot

    abbrev frame : Frame
    frame = planes_shown num h planes.y planes.u planes.v

    at_place : slice_index_or after.slots place None ≡ Some kept_slot
    at_place = get_or-set_same fi.slots place (Some kept_slot) None (omega (arith, keeps.count, below))

    -- the frame is shown at its place,
    pub new_shown : shown_at num h after place ≡ Some frame
    new_shown = ap (option_map (λ (t : Slot T). planes_shown num h t.y t.u t.v)) at_place ∙ ap Some kept_shows

    -- and stands there for others to be predicted from it
    pub new_stands : IsKeptAt num h after place
    new_stands = record {
      below = below;
      filled = ap is_some at_place;
      planes = λ p plane few e.
          let same : plane_of kept_slot p ≡ plane = same_Some _ _ (sym (ap (option_map (λ (t : Slot T). plane_of t p)) at_place) ∙ e) in
          subst (λ (q : Plane T). HoldsPlane num h p (plane_shown num h p q) q) same (each_holds p few);
    }

    shown_slot : (s : ℕ) → s < 8 → (b : Bool) → has_bit refresh s ≡ b →
        shown_in num h after (slice_index_or replaced s None) ≡ (if b then Some frame else slot_of (slots_shown num h fi places) s)
    shown_slot s lt true e = ap (shown_in num h after) (new s lt e) ∙ new_shown
    shown_slot s lt false e = ap (shown_in num h after) (old s lt e) ∙ other_shown num h fi place kept_slot (slice_index_or places s None) (free s lt e)
        ∙ sym (slot_shown num h fi places s lt)

    -- the slots that it replaces show it, and all others what they showed
    pub slots_replaced : slots_shown num h after replaced ≡ refreshed (slots_shown num h fi places) refresh frame
    slots_replaced =
        by_index-same 8 (λ s. shown_in num h after (slice_index_or replaced s None))
        (λ s. if has_bit refresh s then Some frame else slot_of (slots_shown num h fi places) s)
        (λ s lt. shown_slot s lt (has_bit refresh s) refl)

    stands_at : (s q : ℕ) → s < 8 → (b : Bool) → has_bit refresh s ≡ b → slice_index_or replaced s None ≡ Some q → IsKeptAt num h after q
    stands_at s q lt true e is = subst (IsKeptAt num h after) (same_Some _ _ (sym (new s lt e) ∙ is)) new_stands
    stands_at s q lt false e is =
        let before : slice_index_or places s None ≡ Some q = sym (old s lt e) ∙ is in
        other_stands num h fi place kept_slot q (λ same. free s lt e (before ∙ ap Some same)) (keeps.kept s q lt before)

    ready_at : (q : ℕ) (t : Slot T) → slice_index_or after.slots q None ≡ Some t → AreReady num h (coded_planes h t.y t.u t.v)
    ready_at q t is = elim (cases_eq q place) [
      | inl same ↦
          let this : kept_slot ≡ t = same_Some _ _ (sym at_place ∙ ap (λ (i : ℕ). slice_index_or after.slots i None) (sym same) ∙ is) in
          subst (λ (t : Slot T). AreReady num h (coded_planes h t.y t.u t.v)) this kept_ready
      | inr away ↦ keeps.again q t (sym (other_kept num h fi place kept_slot q away) ∙ is)
    ]

    pub keeps_after : length replaced ≡ 8 → KeepsFrames num h after replaced
    keeps_after eight = record {
      frame = keeps.frame;
      depth = keeps.depth;
      eight = eight;
      count = length-set fi.slots place (Some kept_slot) ∙ keeps.count;
      kept = λ s q lt is. stands_at s q lt (has_bit refresh s) refl is;
      again = ready_at;
    }

-- the planes that stood at a place, as three
abbrev pub three_at : {T : Type 0} → FrameInvariants T → ℕ → Option (Plane T × Plane T × Plane T)
three_at {T} fi place = option_map (λ (t : Slot T). (t.y, t.u, t.v)) (slice_index_or fi.slots place None)

abbrev pub as_planes : {T : Type 0} → Header → Option (Plane T × Plane T × Plane T) → Option (Planes T)
as_planes {T} h o = option_map (λ (p : Plane T × Plane T × Plane T). coded_planes h p.0 p.1 p.2) o

-- they can take a later frame, once what is coded is visible again
pub stood_coded : {T : Type 0} (num : T → ℕ) (h : Header) (fi : FrameInvariants T) (places : List (Option ℕ)) → KeepsFrames num h fi places → (place : ℕ)
    → (was : Option (Plane T × Plane T × Plane T)) → was ≡ three_at fi place → IfSome was (λ p. AreReady num h (coded_planes h p.0 p.1 p.2))
stood_coded {T} num h fi places keeps place was was_is =
    subst (λ (o : Option (Plane T × Plane T × Plane T)). IfSome o (λ p. AreReady num h (coded_planes h p.0 p.1 p.2))) (sym was_is)
    (go (slice_index_or fi.slots place None) refl)
  where
    go : (o : Option (Slot T)) → slice_index_or fi.slots place None ≡ o
        → IfSome {T = Plane T × Plane T × Plane T} (option_map (λ (t : Slot T). (t.y, t.u, t.v)) o) (λ p. AreReady num h (coded_planes h p.0 p.1 p.2))
    go None at = tt
    go (Some t) at = keeps.again place t at

pub stood_ready : {T : Type 0} (num : T → ℕ) (h : Header) (fi : FrameInvariants T) (places : List (Option ℕ)) → KeepsFrames num h fi places → (place : ℕ)
    → (was : Option (Plane T × Plane T × Plane T)) (before : Option (Planes T)) → was ≡ three_at fi place → before ≡ as_planes h was →
    IfSome before (AreReady num h)
stood_ready {T} num h fi places keeps place was before was_is is =
    subst (λ (o : Option (Planes T)). IfSome o (AreReady num h)) (sym (is ∙ ap (as_planes h) was_is)) (go (slice_index_or fi.slots place None) refl)
  where
    go : (o : Option (Slot T)) → slice_index_or fi.slots place None ≡ o → IfSome (as_planes h (option_map (λ (t : Slot T). (t.y, t.u, t.v)) o)) (AreReady num h)
    go None at = tt
    go (Some t) at = keeps.again place t at

-- ---- the same of frame settings with a frame put in

-- at this place, with what is shown of its planes, padded
pub record IsPut {T : Type 0} (h : Header) (fi made : FrameInvariants T) (planes : Planes T) (place : ℕ) : Type 0 where
  pub is : made ≡ record fi { slots = slice_set fi.slots place (Some (kept_of h planes)) }

pub put_in : {T : Type 0} (h : Header) (fi made : FrameInvariants T) (planes : Planes T) {n place : ℕ} {y u v : Plane T} → n ≡ place →
    y ≡ padded (shown_plane h 0 planes.y) →
    u ≡ padded (shown_plane h 1 planes.u) →
    v ≡ padded (shown_plane h 2 planes.v)
    → made ≡ record fi { slots = slice_set fi.slots n (Some (record { y = y; u = u; v = v })) } → IsPut h fi made planes place
put_in {T} h fi made planes {n} {place} {y} {u} {v} n_is y_is u_is v_is e =
    let with_planes : FrameInvariants T → ℕ → Plane T → Plane T → Plane T → FrameInvariants T =
    λ fi n y u v. record fi { slots = slice_set fi.slots n (Some (record { y = y; u = u; v = v })) } in
    record {
      is = e ∙ ap (λ (n : ℕ). with_planes fi n y u v) n_is ∙ ap (λ (y : Plane T). with_planes fi place y u v) y_is
          ∙ ap (λ (u : Plane T). with_planes fi place (padded (shown_plane h 0 planes.y)) u v) u_is
          ∙ ap (λ (v : Plane T). with_planes fi place (padded (shown_plane h 0 planes.y)) (padded (shown_plane h 1 planes.u)) v) v_is;
    }

-- the places once a frame has replaced slots
pub record AreReplaced (places replaced : List (Option ℕ)) (refresh place : ℕ) : Type 0 where
  pub below : place < 8
  pub free : (s : ℕ) → s < 8 → has_bit refresh s ≡ false → slice_index_or places s None ≢ Some place
  pub count : length replaced ≡ 8
  pub new : (s : ℕ) → s < 8 → has_bit refresh s ≡ true → slice_index_or replaced s None ≡ Some place
  pub old : (s : ℕ) → s < 8 → has_bit refresh s ≡ false → slice_index_or replaced s None ≡ slice_index_or places s None

module _ {T : Type 0} {num : T → ℕ} {h : Header} {planes : Planes T} (ready : AreReady num h planes) {fi made : FrameInvariants T}
    {places replaced : List (Option ℕ)} {refresh place : ℕ}
    (keeps : KeepsFrames num h fi places)
    (are : AreReplaced places replaced refresh place) (put : IsPut h fi made planes place) where
  pub put_keeps : KeepsFrames num h made replaced
  put_keeps =
      subst (λ (m : FrameInvariants T). KeepsFrames num h m replaced) (sym put.is)
      (keeps_after num h planes keeps.frame ready fi places replaced refresh place keeps are.below are.free are.new are.old are.count)

  pub put_slots : slots_shown num h made replaced ≡ refreshed (slots_shown num h fi places) refresh (planes_shown num h planes.y planes.u planes.v)
  put_slots = ap (λ (m : FrameInvariants T). slots_shown num h m replaced) put.is
      ∙ slots_replaced num h planes keeps.frame ready fi places replaced refresh place keeps are.below are.free are.new are.old

  pub put_shown : shown_at num h made place ≡ Some (planes_shown num h planes.y planes.u planes.v)
  put_shown = ap (λ (m : FrameInvariants T). shown_at num h m place) put.is
      ∙ new_shown num h planes keeps.frame ready fi places replaced refresh place keeps are.below are.free are.new are.old

  pub put_stands : IsKeptAt num h made place
  put_stands =
      subst (λ (m : FrameInvariants T). IsKeptAt num h m place) (sym put.is)
      (new_stands num h planes keeps.frame ready fi places replaced refresh place keeps are.below are.free are.new are.old)
