-- The samples of a block, or of an inter leaf's whole area in a plane: inter prediction process.
use Rattle.std.specs.Prelude.{◌≡◌, ℕ, Some, List, ℤ, pos}
use Rattle.av1_blocks.specs.declared.mc.FilterMode.{FilterMode}
use Rattle.av1_blocks.specs.declared.mc.MotionVector.{MotionVector}
use Rattle.av1_blocks.specs.declared.partition.RefType.{RefType}
use Rattle.av1_frame.specs.Areas.{VisibleArea}
use Rattle.av1_frame.specs.declared.frame_invariants.FrameInvariants.{FrameInvariants}
use Rattle.av1_frame.specs.declared.plane.Plane.{Plane}
use Rattle.av1_frame.specs.declared.plane_region.PlaneRegionMut.{PlaneRegionMut}
use Rattle.av1_frame.specs.Frames.{slot_plane}
use Rattle.av1_frame.specs.Regions.{painted}
use Rattle.av1_inter.specs.Motion.{averaged}
use Rattle.av1_inter.specs.Reference.{frame_filter, moved_prepared, moved_single, prepared_in, reference_of}
use Rattle.av1_inter.specs.Reference.{ReferencePlane, single_in, slot_of, vector_of}

-- the sample at row r and column c of a plane's area, predicted from one reference; `mode n` is the filter along a side
-- of n samples
abbrev pub single_prediction : (depth : ℕ) → (mode : (side : ℕ) → FilterMode) → ReferencePlane → MotionVector →
    VisibleArea → (r c : ℕ) → ℕ
single_prediction depth mode reference mv a r c =
    single_in depth mode reference (pos a.x) (pos a.y) mv a.width a.height r c

-- the sample there, predicted from two references, each with its vector
abbrev pub compound_prediction : (depth : ℕ) → (mode : (side : ℕ) → FilterMode) → (first second : ReferencePlane) →
    (first_mv second_mv : MotionVector) → VisibleArea → (r c : ℕ) → ℕ
compound_prediction depth mode first second first_mv second_mv a r c =
    averaged depth (prepared_in depth mode first (pos a.x) (pos a.y) first_mv a.width a.height r c)
    (prepared_in depth mode second (pos a.x) (pos a.y) second_mv a.width a.height r c)

-- what a block's sample at row r and column c becomes, at the frame's depth and filter; `num` is the number of a
-- sample, and `pixel` the sample of a number
abbrev pub single_pixel : {T : Type 0} → (num : T → ℕ) (pixel : ℕ → T) → FrameInvariants T → Plane T → (x y : ℤ) →
    MotionVector → (width height : ℕ) → (r c : ℕ) → T → T
single_pixel num pixel fi plane x y mv width height r c _ =
    pixel (moved_single num fi.bit_depth (frame_filter fi) plane x y mv width height r c)

abbrev pub compound_pixel : {T : Type 0} → (num : T → ℕ) (pixel : ℕ → T) → FrameInvariants T →
    (first second : Plane T) → (x y : ℤ) → List MotionVector → (width height : ℕ) → (r c : ℕ) → T → T
compound_pixel num pixel fi first second x y mvs width height r c _ = pixel (averaged fi.bit_depth
    (moved_prepared num fi.bit_depth (frame_filter fi) first x y (vector_of mvs 0) width height r c)
    (moved_prepared num fi.bit_depth (frame_filter fi) second x y (vector_of mvs 1) width height r c))

-- a block at column x and row y was predicted from plane p of one reference, if its slot is filled
abbrev pub PredictsSingle : {T : Type 0} → (num : T → ℕ) (pixel : ℕ → T) → FrameInvariants T → (p : ℕ) → RefType →
    (x y : ℤ) → MotionVector → (width height : ℕ) → (old new : PlaneRegionMut T) → Type 0
PredictsSingle {T} num pixel fi p reference x y mv width height old new =
    (plane : Plane T) → slot_plane fi (slot_of fi reference) p ≡ Some plane →
    new ≡ painted old width height (single_pixel num pixel fi plane x y mv width height)

-- a block at column x and row y was predicted from plane p of two references, if both slots are filled
abbrev pub PredictsCompound : {T : Type 0} → (num : T → ℕ) (pixel : ℕ → T) → FrameInvariants T → (p : ℕ) →
    List RefType → (x y : ℤ) → List MotionVector → (width height : ℕ) → (old new : PlaneRegionMut T) → Type 0
PredictsCompound {T} num pixel fi p references x y mvs width height old new =
    (first second : Plane T) → slot_plane fi (slot_of fi (reference_of references 0)) p ≡ Some first →
    slot_plane fi (slot_of fi (reference_of references 1)) p ≡ Some second
    → new ≡ painted old width height (compound_pixel num pixel fi first second x y mvs width height)
