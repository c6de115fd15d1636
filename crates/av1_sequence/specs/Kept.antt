-- What a sequence keeps in memory, and what its callers see of it.
use Rattle.std.specs.Prelude.{◌≡◌, ℕ, ◌<◌, ◌≤◌, true, List, [], ◌∷◌, Option, Some, None, option_map, is_some, length}
use Rattle.std.specs.Prelude.{slice_index_or}
use Rattle.av1_frame.specs.declared.frame_invariants.FrameInvariants.{FrameInvariants}
use Rattle.av1_frame.specs.declared.plane.Plane.{Plane}
use Rattle.av1_frame.specs.declared.slots.Slot.{Slot}
use Rattle.av1_frame.specs.Frames.{slot_plane}
use Rattle.av1_frame.specs.Planes.{sample_at, with_sides}
use Rattle.av1_lists.specs.Lists.{by_index}
use Rattle.av1_plan.specs.declared.header.Header.{Header}
use Rattle.av1_plan.specs.Grammar.{is_depth}
use Rattle.av1_plan.specs.Geometry.{plane_width, plane_height, shown_columns, shown_rows, coded_width, coded_height}
use Rattle.av1_plan.specs.ReadPlans.{IsSide, IsShown}
use Rattle.av1_tile.specs.Motion.{HoldsPlane}
use Rattle.av1_tile.specs.declared.planes.Planes.{Planes}
use Rattle.av1_tile.specs.Output.{by_rows}
use Rattle.av1_tile.specs.PlaneBlocks.{shown_of}
use Rattle.av1_tile.specs.Walk.{HasPads, HasRoom, StoresAll}
use Rattle.av1_sequence.specs.Slots.{Frame, Slots}

-- What callers see of a sequence: a header with the version, dimensions, depth and sampling of its frames, its slots,
-- and the last frame that was accepted or shown again.
pub record Kept : Type 0 where
  pub frames : Header
  pub slots : Slots
  pub last : Option Frame

-- ---- planes in memory

-- the visible samples of plane p as numbers, row by row
abbrev pub plane_shown : {T : Type 0} → (T → ℕ) → Header → ℕ → Plane T → List ℕ
plane_shown num h p plane = by_rows (shown_of h p) (λ x y. sample_at num plane x y)

-- the visible samples of three planes
abbrev pub planes_shown : {T : Type 0} → (T → ℕ) → Header → (y u v : Plane T) → Frame
planes_shown num h y u v = plane_shown num h 0 y ∷ plane_shown num h 1 u ∷ plane_shown num h 2 v ∷ []

-- planes to reconstruct a frame in, and then to keep it in
pub record AreReady {T : Type 0} (num : T → ℕ) (h : Header) (planes : Planes T) : Type 0 where
  pub stores : StoresAll num h planes
  pub room : HasRoom h planes
  pub pads : HasPads h 80 planes

-- a plane whose visible part is what is shown of plane p of a frame, or all that is coded of it
abbrev pub shown_plane : {T : Type 0} → Header → ℕ → Plane T → Plane T
shown_plane h p = with_sides (shown_columns h p) (shown_rows h p)

abbrev pub coded_plane : {T : Type 0} → Header → ℕ → Plane T → Plane T
coded_plane h p = with_sides (plane_width h p) (plane_height h p)

abbrev pub coded_planes : {T : Type 0} → Header → (y u v : Plane T) → Planes T
coded_planes h y u v = record { y = coded_plane h 0 y; u = coded_plane h 1 u; v = coded_plane h 2 v }

-- ---- frames at places

-- the frame at a place
abbrev pub shown_at : {T : Type 0} → (T → ℕ) → Header → FrameInvariants T → ℕ → Option Frame
shown_at num h fi place = option_map (λ s. planes_shown num h s.y s.u s.v) (slice_index_or fi.slots place None)

abbrev pub shown_in : {T : Type 0} → (T → ℕ) → Header → FrameInvariants T → Option ℕ → Option Frame
shown_in num h fi None = None
shown_in num h fi (Some place) = shown_at num h fi place

-- the slots, each with the frame at its place
abbrev pub slots_shown : {T : Type 0} → (T → ℕ) → Header → FrameInvariants T → (places : List (Option ℕ)) → Slots
slots_shown num h fi places = by_index 8 (λ s. shown_in num h fi (slice_index_or places s None))

-- a frame is kept at this place, padded, so that other frames can be predicted from it
pub record IsKeptAt {T : Type 0} (num : T → ℕ) (h : Header) (fi : FrameInvariants T) (place : ℕ) : Type 0 where
  pub below : place < 8
  pub filled : is_some (slice_index_or fi.slots place None) ≡ true
  pub planes : (p : ℕ) (plane : Plane T) → p < 3 → slot_plane fi place p ≡ Some plane →
      HoldsPlane num h p (plane_shown num h p plane) plane

-- the version, dimensions, depth and sampling of a sequence's frames are valid
pub record AreFrames (h : Header) : Type 0 where
  pub least_version : 1 ≤ h.version
  pub most_version : h.version ≤ 3
  pub width : IsSide (coded_width h)
  pub height : IsSide (coded_height h)
  pub shown_width : IsShown h.version h.width (coded_width h)
  pub shown_height : IsShown h.version h.height (coded_height h)
  pub depth : is_depth h.depth ≡ true
  pub sampling : h.sampling ≤ 2

-- The frames of slots are kept at their places. Planes at any place can take a later frame, after all that is coded is
-- visible again.
pub record KeepsFrames {T : Type 0} (num : T → ℕ) (h : Header) (fi : FrameInvariants T)
    (places : List (Option ℕ)) : Type 0 where
  pub frame : AreFrames h
  pub depth : fi.bit_depth ≡ h.depth
  pub count : length fi.slots ≡ 8
  pub eight : length places ≡ 8
  pub kept : (s place : ℕ) → s < 8 → slice_index_or places s None ≡ Some place → IsKeptAt num h fi place
  pub again : (place : ℕ) (t : Slot T) → slice_index_or fi.slots place None ≡ Some t →
      AreReady num h (coded_planes h t.y t.u t.v)
