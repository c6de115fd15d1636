-- The planes and rows of a frame that is kept, and of one that stands apart.
use Rattle.std.proofs.Common.{ℕ, zero, suc, ◌*◌, ◌+◌, ◌<◌, ◌≤◌, ◌≡◌, ◌∙◌, List, [], map, Option, Some, None, refl, ap, sym, subst, arith, slice_index}
use Rattle.std.proofs.Common.{slice_index_or, Bor}
use Rattle.std.specs.Option.{option_map}
use Rattle.std.proofs.Math.Nat.{le_of_eq}
use Rattle.std.proofs.lemmas.Option.{same_Some}
use Rattle.av1_frame.specs.declared.frame_invariants.FrameInvariants.{FrameInvariants}
use Rattle.av1_frame.specs.declared.plane.Plane.{Plane}
use Rattle.av1_frame.specs.declared.slots.Slot.{Slot}
use Rattle.av1_frame.specs.Frames.{plane_of, slot_plane}
use Rattle.av1_frame.specs.Planes.{sample_at}
use Rattle.av1_lists.specs.Lists.{by_index}
use Rattle.av1_lists.proofs.Lists.{by_index-same}
use Rattle.av1_plan.specs.declared.header.Header.{Header}
use Rattle.av1_plan.specs.Geometry.{shown_rows, shown_columns}
use Rattle.av1_plan.proofs.Shown.{columns_few}
use Rattle.av1_tile.specs.declared.planes.Planes.{Planes}
use Rattle.av1_tile.specs.PlaneBlocks.{component, shown_of}
use Rattle.av1_tile.specs.Walk.{ShowsPart, Stores, plane_of as plane_in}
use Rattle.av1_tile.proofs.Pictures.{shows_part}
use Rattle.av1_sequence.specs.Kept.{AreFrames, AreReady, IsKeptAt, plane_shown, planes_shown, shown_at}
use Rattle.av1_sequence.specs.Output.{IsWritable}
use Rattle.av1_sequence.specs.Slots.{Frame, row_in}
use Rattle.av1_sequence.proofs.Rows.{sample_in}
use Rattle.av1_sequence.proofs.Serving.{plane_listed}
use Rattle.av1_sequence.proofs.Shown.{filled_planes}

-- how many columns of a plane are shown at most
most_columns : (h : Header) (p : ℕ) → AreFrames h → shown_columns h p ≤ 2048
most_columns h p frames = omega (arith, columns_few h p, frames.shown_width.within, frames.width.most)

-- a row that was read of a plane is that of the samples that the plane shows
pub plane_row : {T : Type 0} (num : T → ℕ) (h : Header) (p : ℕ) (plane : Plane T) (y : ℕ) (row : List T) → y < shown_rows h p →
    map num row ≡ by_index (shown_columns h p) (λ x. sample_at num plane x y) → map num row ≡ row_in (shown_columns h p) (plane_shown num h p plane) y
plane_row num h p plane y row below is =
    is
    ∙ by_index-same (shown_columns h p) (λ x. sample_at num plane x y) (λ x. slice_index (plane_shown num h p plane) (y * shown_columns h p + x))
    (λ x inside. sym (sample_in (shown_of h p) (λ x y. sample_at num plane x y) x y inside below))

-- ---- a frame at a place

-- a plane of it that was lent
pub lent_plane : {T : Type 0} (fi : FrameInvariants T) (p : ℕ) {n place : ℕ} {found : Option (Bor (Plane T))} {plane : Bor (Plane T)} → n ≡ place →
    option_map (λ (b : Bor (Plane T)). b.now) found ≡ slot_plane fi n p → found ≡ Some plane → slot_plane fi place p ≡ Some plane.now
lent_plane fi p n_is found_is is = ap (λ (i : ℕ). slot_plane fi i p) (sym n_is) ∙ sym found_is ∙ ap (option_map (λ b. b.now)) is

-- its planes can be written
pub kept_writable : {T : Type 0} (num : T → ℕ) (h : Header) (fi : FrameInvariants T) (place p : ℕ) (plane : Plane T) → AreFrames h →
    IsKeptAt num h fi place → p < 3 →
    slot_plane fi place p ≡ Some plane → IsWritable h p plane
kept_writable num h fi place p plane frames stands few e =
    let o = stands.planes p plane few e in
    record {
      place = record { whole = o.padded.whole; columns = le_of_eq (sym o.width); rows = le_of_eq (sym o.height) };
      wide = most_columns h p frames;
    }

-- and show what the place shows
pub kept_plane : {T : Type 0} (num : T → ℕ) (h : Header) (fi : FrameInvariants T) (place p : ℕ) (plane : Plane T) → IsKeptAt num h fi place → p < 3 →
    slot_plane fi place p ≡ Some plane
    → (frame : Frame) → shown_at num h fi place ≡ Some frame → plane_shown num h p plane ≡ slice_index_or frame p []
kept_plane {T} num h fi place p plane stands few e frame shows =
    let (t, t_is) = filled_planes (slice_index_or fi.slots place None) stands.filled in
    let frame_is : planes_shown num h t.y t.u t.v ≡ frame =
    same_Some _ _ (sym (ap (option_map (λ (t : Slot T). planes_shown num h t.y t.u t.v)) t_is) ∙ shows) in
    let plane_is : plane_of t p ≡ plane = same_Some _ _ (sym (ap (option_map (λ (t : Slot T). plane_of t p)) t_is) ∙ e) in
    ap (plane_shown num h p) (sym plane_is) ∙ sym (plane_listed num h t p few) ∙ ap (λ (f : Frame). slice_index_or f p []) frame_is

-- ---- planes that stand apart

stored_writable : {T : Type 0} (num : T → ℕ) (h : Header) (p : ℕ) (plane : Plane T) → AreFrames h → Stores num h p plane → IsWritable h p plane
stored_writable num h p plane frames stores = record { place = shows_part h p plane stores.place; wide = most_columns h p frames }

pub apart_writable : {T : Type 0} (num : T → ℕ) (h : Header) (planes : Planes T) (p : ℕ) → AreFrames h → p < 3 → AreReady num h planes →
    IsWritable h p (plane_in (component p) planes)
apart_writable num h planes zero frames few ready = stored_writable num h 0 planes.y frames ready.stores.y
apart_writable num h planes (suc zero) frames few ready = stored_writable num h 1 planes.u frames ready.stores.u
apart_writable num h planes (suc (suc zero)) frames few ready = stored_writable num h 2 planes.v frames ready.stores.v
apart_writable num h planes (suc (suc (suc p))) frames few ready = absurd (omega (arith, few))

pub apart_plane : {T : Type 0} (num : T → ℕ) (h : Header) (planes : Planes T) (p : ℕ) → p < 3 →
    plane_shown num h p (plane_in (component p) planes) ≡ slice_index_or (planes_shown num h planes.y planes.u planes.v) p []
apart_plane num h planes zero few = refl
apart_plane num h planes (suc zero) few = refl
apart_plane num h planes (suc (suc zero)) few = refl
apart_plane num h planes (suc (suc (suc p))) few = absurd (omega (arith, few))

-- ---- the frame that was accepted last

-- a plane that can be written shows its part of the frame, under a header that is the same
pub writable_place : {T : Type 0} (h g : Header) (p : ℕ) (plane : Plane T) → g ≡ h → IsWritable h p plane → ShowsPart g p plane
writable_place h g p plane same w = subst (λ (x : Header). ShowsPart x p plane) (sym same) w.place

pub writable_below : (h g : Header) (p y : ℕ) → g ≡ h → y < shown_rows h p → y < shown_rows g p
writable_below h g p y same lt = subst (λ (x : Header). y < shown_rows x p) (sym same) lt

-- a row of a plane that the last frame shows is one of that frame
pub shown_row : {T : Type 0} (num : T → ℕ) (h g : Header) → g ≡ h → (p y : ℕ) (plane : Plane T) (row : List T) (last : Option Frame) → y < shown_rows h p
    → map num row ≡ by_index (shown_columns g p) (λ x. sample_at num plane x y) →
    Some (plane_shown num h p plane) ≡ option_map (λ (f : Frame). slice_index_or f p []) last
    → Some (map num row) ≡ option_map (λ (f : Frame). row_in (shown_columns h p) (slice_index_or f p []) y) last
shown_row num h g same p y plane row None below is e =
    let clash : Some (plane_shown num h p plane) ≡ None = e in
    absurd cc
shown_row num h g same p y plane row (Some frame) below is e =
    let here = subst (λ (x : Header). map num row ≡ by_index (shown_columns x p) (λ x. sample_at num plane x y)) same is in
    ap Some (plane_row num h p plane y row below here ∙ ap (λ (xs : List ℕ). row_in (shown_columns h p) xs y) (same_Some _ _ e))
