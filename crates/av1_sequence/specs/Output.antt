-- The bytes of a frame of a sequence, and the planes that they are written from.
use Rattle.std.specs.Prelude.{◌≡◌, ℕ, ◌==◌, ◌≤◌, ◌++◌, [], List, slice_index_or}
use Rattle.std.specs.List.{flat_map}
use Rattle.av1_frame.specs.declared.plane.Plane.{Plane}
use Rattle.av1_plan.specs.declared.header.Header.{Header}
use Rattle.av1_plan.specs.Geometry.{shown_columns}
use Rattle.av1_tile.specs.Output.{sample_bytes}
use Rattle.av1_tile.specs.Walk.{ShowsPart}
use Rattle.av1_sequence.specs.Slots.{Frame}

-- the samples of plane p: one byte for each at depth 8, else two, the low byte first
abbrev pub plane_text : (frames : Header) → Frame → (p : ℕ) → List ℕ
plane_text frames frame p = flat_map (sample_bytes frames.depth) (slice_index_or frame p [])

-- the samples of Y, then of U, then of V
abbrev pub frame_text : (frames : Header) → Frame → List ℕ
frame_text frames frame = plane_text frames frame 0 ++ plane_text frames frame 1 ++ plane_text frames frame 2

-- plane p of a frame that can be written: it is not wider than the widest frame
pub record IsWritable {T : Type 0} (h : Header) (p : ℕ) (plane : Plane T) : Type 0 where
  pub place : ShowsPart h p plane
  pub wide : shown_columns h p ≤ 2048

-- Samples of this depth are written like samples of this many bits: as one byte each, or as two.
abbrev pub AreWrittenAs : (depth bits : ℕ) → Type 0
AreWrittenAs depth bits = (depth == 8) ≡ (bits == 8)
