-- Frames and their slots.
use Rattle.std.specs.Prelude.{ℕ, zero, suc, ◌/◌, List, Bool, false, Option, None, replicate, slice_index_or}
use Rattle.std.specs.Option.{option_map}
use Rattle.av1_blocks.specs.declared.mc.FilterMode.{FilterMode}
use Rattle.av1_frame.specs.declared.plane.Plane.{Plane}
use Rattle.av1_frame.specs.declared.slots.Slot.{Slot}
use Rattle.av1_frame.specs.declared.frame_invariants.FrameInvariants.{FrameInvariants}

-- a frame with these luma dimensions, with all slots empty
abbrev pub new_frame : {T : Type 0} → ℕ → ℕ → FilterMode → ℕ → Bool → List ℕ → FrameInvariants T
new_frame width height filter depth edge_filter ref_frames = record {
  w_in_b = width / 4;
  h_in_b = height / 4;
  default_filter = filter;
  short_by_av1 = false;
  bit_depth = depth;
  enable_intra_edge_filter = edge_filter;
  ref_frames = ref_frames;
  slots = replicate 8 None;
}

-- plane p of the planes of a frame: luma, and the two of chroma
abbrev pub plane_of : {T : Type 0} → Slot T → ℕ → Plane T
plane_of s zero = s.y
plane_of s (suc zero) = s.u
plane_of s (suc (suc p)) = s.v

-- plane p of the frame in a slot, if there is one
abbrev pub slot_plane : {T : Type 0} → FrameInvariants T → ℕ → ℕ → Option (Plane T)
slot_plane fi slot p = option_map (λ s. plane_of s p) (slice_index_or fi.slots slot None)
