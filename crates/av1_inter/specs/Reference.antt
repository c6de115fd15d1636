-- What a vector reads of a reference: block inter prediction process, motion vector scaling process at a scale of one.
use Rattle.std.specs.Prelude.{◌≡◌, ℕ, ◌+◌, ◌-◌, ◌^◌, ◌<◌, ◌≤◌, ℤ, pos, ◌+ℤ◌, ◌-ℤ◌, ◌*ℤ◌, unsigned_abs, slice_index}
use Rattle.std.specs.Prelude.{slice_index_or, List, Some, ◌≢◌, Bool, true, false}
use Rattle.std.specs.Int.{int_shr, int_rem_euclid}
use Rattle.av1_blocks.specs.declared.mc.FilterMode.{FilterMode}
use Rattle.av1_blocks.specs.declared.mc.MotionVector.{MotionVector}
use Rattle.av1_blocks.specs.declared.partition.RefType.{RefType}
use Rattle.av1_blocks.specs.declared.partition.RefType.TheVariants.{INTRA_FRAME, NONE_FRAME}
use Rattle.av1_blocks.specs.References.{reference_number}
use Rattle.av1_frame.specs.declared.frame_invariants.FrameInvariants.{FrameInvariants}
use Rattle.av1_frame.specs.Frames.{slot_plane}
use Rattle.av1_frame.specs.declared.plane.Plane.{Plane}
use Rattle.av1_frame.specs.Planes.{IsWhole, sample_at}
use Rattle.av1_frame.specs.Slices.{IsStoredPlace, nearest_visible, stored_sample}
use Rattle.av1_inter.specs.Filters.{filter_of, mode_along}
use Rattle.av1_inter.specs.Motion.{prepared, single}

-- the whole samples by which a component of a vector moves a block in a plane of this decimation; the component is in
-- eighths of a luma sample
abbrev pub whole_part : ℤ → (decimation : ℕ) → ℤ
whole_part component decimation = int_shr component (3 + decimation)

-- the sixteenths of a sample by which it moves the block further
abbrev pub sixteenths : ℤ → (decimation : ℕ) → ℕ
sixteenths component decimation = unsigned_abs (int_rem_euclid (component *ℤ pos (2 ^ (1 - decimation))) (pos 16))

-- A reference as motion compensation reads it: the width and height of its visible plane, its decimations, and the
-- sample at each column and row.
pub record ReferencePlane : Type 0 where
  pub width : ℕ
  pub height : ℕ
  pub xdec : ℕ
  pub ydec : ℕ
  pub sample : ℕ → ℕ → ℕ

-- the visible sample that is nearest to column x and row y
abbrev pub nearest_in : ReferencePlane → (x y : ℤ) → ℕ
nearest_in reference x y = reference.sample (nearest_visible reference.width x) (nearest_visible reference.height y)

-- the samples round a block at column x and row y that a vector moves, counted from the position 3 columns left of and
-- 3 rows above its first sample
abbrev pub moved_in : ReferencePlane → (x y : ℤ) → MotionVector → (c r : ℕ) → ℕ
moved_in reference x y mv c r = nearest_in reference (x +ℤ (whole_part mv.col reference.xdec -ℤ pos 3) +ℤ pos c)
    (y +ℤ (whole_part mv.row reference.ydec -ℤ pos 3) +ℤ pos r)

-- The sample at row r and column c of a block of these sides at column x and row y, predicted from one reference; `mode
-- n` is the filter along a side of n samples.
abbrev pub single_in : (depth : ℕ) → (mode : (side : ℕ) → FilterMode) → ReferencePlane → (x y : ℤ) → MotionVector →
    (width height : ℕ) → (r c : ℕ) → ℕ
single_in depth mode reference x y mv width height =
    let fx = sixteenths mv.col reference.xdec in
    let fy = sixteenths mv.row reference.ydec in
    single depth fx fy (filter_of (mode width) fx width) (filter_of (mode height) fy height) (moved_in reference x y mv)

-- what is prepared there of one of two references
abbrev pub prepared_in : (depth : ℕ) → (mode : (side : ℕ) → FilterMode) → ReferencePlane → (x y : ℤ) → MotionVector →
    (width height : ℕ) → (r c : ℕ) → ℤ
prepared_in depth mode reference x y mv width height =
    let fx = sixteenths mv.col reference.xdec in
    let fy = sixteenths mv.row reference.ydec in
    prepared depth fx fy (filter_of (mode width) fx width) (filter_of (mode height) fy height)
    (moved_in reference x y mv)

-- a plane as a reference
abbrev pub as_reference : {T : Type 0} → (T → ℕ) → Plane T → ReferencePlane
as_reference num plane = record {
  width = plane.plane_cfg.width;
  height = plane.plane_cfg.height;
  xdec = plane.plane_cfg.xdec;
  ydec = plane.plane_cfg.ydec;
  sample = sample_at num plane;
}

-- the same definitions for a plane
abbrev pub nearest_sample : {T : Type 0} → (T → ℕ) → Plane T → (x y : ℤ) → ℕ
nearest_sample num plane = nearest_in (as_reference num plane)

abbrev pub moved : {T : Type 0} → (T → ℕ) → Plane T → (x y : ℤ) → MotionVector → (c r : ℕ) → ℕ
moved num plane = moved_in (as_reference num plane)

abbrev pub moved_single : {T : Type 0} → (T → ℕ) → (depth : ℕ) → (mode : (side : ℕ) → FilterMode) → Plane T →
    (x y : ℤ) → MotionVector → (width height : ℕ) → (r c : ℕ) → ℕ
moved_single num depth mode plane = single_in depth mode (as_reference num plane)

abbrev pub moved_prepared : {T : Type 0} → (T → ℕ) → (depth : ℕ) → (mode : (side : ℕ) → FilterMode) → Plane T →
    (x y : ℤ) → MotionVector → (width height : ℕ) → (r c : ℕ) → ℤ
moved_prepared num depth mode plane = prepared_in depth mode (as_reference num plane)

-- a plane in which each stored sample outside the visible ones equals the nearest visible sample
pub record IsPadded {T : Type 0} (num : T → ℕ) (plane : Plane T) : Type 0 where
  pub whole : IsWhole plane
  pub samples : (x y : ℤ) → IsStoredPlace plane.plane_cfg x y →
      stored_sample num plane x y ≡ nearest_sample num plane x y

-- such a plane, with samples of this depth, and pads for a block of these sides
pub record IsReference {T : Type 0} (num : T → ℕ) (plane : Plane T) (depth width height : ℕ) : Type 0 where
  pub padded : IsPadded num plane
  pub within : (x y : ℕ) → x < plane.plane_cfg.width → y < plane.plane_cfg.height → sample_at num plane x y < 2 ^ depth
  pub xpad : width + 7 ≤ plane.plane_cfg.xpad
  pub ypad : height + 7 ≤ plane.plane_cfg.ypad

-- the filter of a frame along a side of a block
abbrev pub frame_filter : {T : Type 0} → FrameInvariants T → (side : ℕ) → FilterMode
frame_filter fi = mode_along fi.short_by_av1 fi.default_filter

-- the slot of a reference
abbrev pub slot_of : {T : Type 0} → FrameInvariants T → RefType → ℕ
slot_of fi reference = slice_index fi.ref_frames (reference_number reference - 1)

-- if the slot of a reference is filled, its plane serves a block of these sides
abbrev pub HasReference : {T : Type 0} → (T → ℕ) → FrameInvariants T → RefType → (p width height : ℕ) → Type 0
HasReference {T} num fi reference p width height = (plane : Plane T) →
    slot_plane fi (slot_of fi reference) p ≡ Some plane → IsReference num plane fi.bit_depth width height

-- the first or second of two references, and of two vectors
abbrev pub reference_of : List RefType → ℕ → RefType
reference_of references i = slice_index_or references i INTRA_FRAME

abbrev pub vector_of : List MotionVector → ℕ → MotionVector
vector_of mvs i = slice_index_or mvs i (record { row = pos 0; col = pos 0 })

-- a block of these sides can be predicted from a reference in plane p
pub record IsServed {T : Type 0} (num : T → ℕ) (fi : FrameInvariants T) (reference : RefType)
    (p width height : ℕ) : Type 0 where
  pub inter : reference ≢ INTRA_FRAME
  pub some : reference ≢ NONE_FRAME
  pub slot : slot_of fi reference < 8
  pub plane : HasReference num fi reference p width height

-- whether this is a reference to another frame
abbrev pub is_reference : RefType → Bool
is_reference INTRA_FRAME = false
is_reference NONE_FRAME = false
is_reference _ = true
