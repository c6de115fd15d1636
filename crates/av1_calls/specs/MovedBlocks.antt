-- The contracts of the calls that follow a vector into a plane without margins. Outside the plane each sample is the
-- nearest visible one. AV1 specification: block inter prediction process.
use Rattle.std.specs.Prelude.{◌≡◌, ◌≢◌, ◌⊎◌, Bool, ℕ, ◌+◌, ◌-◌, ◌*◌, ◌<◌, ◌≤◌, List, length, slice_index, ℤ, pos}
use Rattle.std.specs.Prelude.{◌+ℤ◌, ◌-ℤ◌, ◌≤ℤ◌, unsigned_abs, nat_lt, if◌then◌else◌}
use Rattle.av1_blocks.specs.Depths.{IsDepth}
use Rattle.av1_blocks.specs.declared.mc.MotionVector.{MotionVector}
use Rattle.av1_frame.specs.Areas.{AreRows}
use Rattle.av1_frame.specs.declared.plane_region.StoredArea.{StoredArea}
use Rattle.av1_frame.specs.Slices.{nearest_visible}
use Rattle.av1_inter.specs.Places.{AreWithinDepth, read_before, read_beside}
use Rattle.av1_inter.specs.Reference.{ReferencePlane, moved_in, sixteenths}
use Rattle.av1_calls.specs.Arguments.{IfWide, OnlyWide}
use Rattle.av1_calls.specs.IntraEdges.{halvings}
use Rattle.av1_calls.specs.MotionPlaces.{LiesNear}
use Rattle.av1_calls.specs.Motions.{AreSides, HoldBlock, IsFilterNumber, rectangle_at, with_block}
use Rattle.av1_calls.specs.declared.argument.BadArgument.{BadArgument}
use Rattle.av1_calls.specs.declared.argument.BadArgument.TheVariants as bad
use Rattle.av1_calls.specs.declared.motion.MotionBlock.{MotionBlock}
use Rattle.av1_calls.specs.declared.motion.Place.{Place}
use Rattle.av1_calls.specs.declared.motion_place.MotionPlane.{MotionPlane}
use Rattle.av1_calls.specs.declared.motion_place.MovedBlock.{MovedBlock}
use Rattle.av1_calls.specs.declared.motion_place.MovedPlace.{MovedPlace}
use Rattle.av1_calls.specs.declared.status.TheConstants.{BAD_AREA, BAD_DEPTH, BAD_MODE, BAD_SIZE, DONE, TOO_SHORT}

-- ---- a block and its reference

-- the rectangle of the visible samples of the plane
abbrev pub visible_of : MotionPlane → StoredArea
visible_of p = record { x = p.x; y = p.y; width = p.width; height = p.height }

-- the plane, as motion reads it
abbrev pub reference_of : MotionPlane → List ℕ → ReferencePlane
reference_of p samples = record {
  width = p.width;
  height = p.height;
  xdec = halvings p.halved_columns;
  ydec = halvings p.halved_rows;
  sample = λ x y. slice_index samples ((p.y + y) * p.stride + p.x + x);
}

-- the vector
abbrev pub vector_of : MovedBlock → MotionVector
vector_of b = record { row = b.row; col = b.col }

-- the block, moved by these fractions
abbrev pub motion_at : MovedBlock → (col_frac row_frac : ℕ) → MotionBlock
motion_at b col_frac row_frac = record {
  width = b.width;
  height = b.height;
  col_frac = col_frac;
  row_frac = row_frac;
  filter_x = b.filter_x;
  filter_y = b.filter_y;
}

-- the block, moved by the fractions of its vector
abbrev pub motion_of : MotionPlane → MovedBlock → MotionBlock
motion_of p b = motion_at b (sixteenths b.col (halvings p.halved_columns)) (sixteenths b.row (halvings p.halved_rows))

-- the samples round the block, counted from 3 columns left of its first sample and 3 rows above
abbrev pub moved_source : MotionPlane → MovedBlock → List ℕ → (c r : ℕ) → ℕ
moved_source p b samples = moved_in (reference_of p samples) (pos b.x) (pos b.y) (vector_of b)

-- ---- what is required

-- both of the block's filters have valid numbers
pub record AreMovedFilters (b : MovedBlock) : Type 0 where
  pub across : IsFilterNumber b.filter_x
  pub down : IsFilterNumber b.filter_y

-- The plane lies in this many samples, and the block near the plane.
pub record IsSourced (p : MotionPlane) (samples : ℕ) (b : MovedBlock) : Type 0 where
  pub near : LiesNear p b
  pub source : AreRows p.stride (visible_of p) samples

-- The plane lies in this many samples, and the block near the plane. The block's rectangle lies in `room` samples.
pub record IsPlaced (to : Place) (room : ℕ) (p : MotionPlane) (samples : ℕ) (b : MovedBlock) : Type 0 where
  pub source : IsSourced p samples b
  pub rows : AreRows to.stride (rectangle_at to b.width b.height) room

-- The block can be moved and written.
pub record IsPutMoved (to : Place) (room : ℕ) (p : MotionPlane) (samples : ℕ) (b : MovedBlock) : Type 0 where
  pub sides : AreSides b.width b.height
  pub filters : AreMovedFilters b
  pub placed : IsPlaced to room p samples b

-- The block can be moved, and can be prepared in `room` values.
pub record IsPrepMoved (room : ℕ) (p : MotionPlane) (samples : ℕ) (b : MovedBlock) : Type 0 where
  pub sides : AreSides b.width b.height
  pub filters : AreMovedFilters b
  pub source : IsSourced p samples b
  pub long : b.height * b.width ≤ room

-- no sample that is read is past the depth
abbrev pub AreMovedWithin : (depth : ℕ) → MotionPlane → MovedBlock → List ℕ → Type 0
AreMovedWithin depth p b samples = AreWithinDepth depth (moved_source p b samples) (b.width + 7) (b.height + 7)

-- ---- what is rejected: each reason includes that the tests before it passed

abbrev pub HasNoFilters : MovedBlock → Type 0
HasNoFilters b = AreSides b.width b.height × (¬ AreMovedFilters b)

-- the plane, the block's position or the block's rectangle does not lie where it has to
abbrev pub HasNoPlace : (to : Place) (room : ℕ) → MotionPlane → (samples : ℕ) → MovedBlock → Type 0
HasNoPlace to room p samples b =
    AreSides b.width b.height × (AreMovedFilters b × (¬ IsPlaced to room p samples b))

-- the plane or the block's position does not lie where it has to
abbrev pub HasNoSource : MotionPlane → (samples : ℕ) → MovedBlock → Type 0
HasNoSource p samples b = AreSides b.width b.height × (AreMovedFilters b × (¬ IsSourced p samples b))

-- there are fewer values than the block has samples
abbrev pub HasFewValues : (room : ℕ) → MotionPlane → (samples : ℕ) → MovedBlock → Type 0
HasFewValues room p samples b =
    AreSides b.width b.height × (AreMovedFilters b × (IsSourced p samples b × (room < b.height * b.width)))

-- ---- the contracts

-- The call predicts a block that a vector moves, at this depth. `before` is the samples before the call, `after` after
-- it, and `answer` is the status.
pub record PutsMoved (wide : Bool) (bit_depth : ℕ) (to : Place) (plane : MotionPlane) (block : MovedBlock)
    (src before after : List ℕ) (answer : ℕ) : Type 0 where
  -- The block can be moved and written, and its rectangle holds the block.
  pub done : answer ≡ DONE → IsPutMoved to (length before) plane (length src) block
      × (IfWide wide (IsDepth bit_depth)
      × (after ≡ with_block bit_depth to (motion_of plane block) (moved_source plane block src) before))
  -- The call requires nothing else of its arguments.
  pub asked : IsPutMoved to (length before) plane (length src) block → IfWide wide (IsDepth bit_depth)
      → answer ≡ DONE
  -- The status names the first bad argument, and these clauses say what is wrong with it.
  pub size : answer ≡ BAD_SIZE → ¬ AreSides block.width block.height
  pub mode : answer ≡ BAD_MODE → HasNoFilters block
  pub area : answer ≡ BAD_AREA → HasNoPlace to (length before) plane (length src) block
  pub depth : answer ≡ BAD_DEPTH
      → OnlyWide wide (IsPutMoved to (length before) plane (length src) block × (¬ IsDepth bit_depth))
  -- If the call rejects an argument, the samples are unchanged.
  pub kept : answer ≢ DONE → after ≡ before
  pub known : (answer ≡ DONE) ⊎ ((answer ≡ BAD_SIZE) ⊎ ((answer ≡ BAD_MODE) ⊎ ((answer ≡ BAD_AREA)
      ⊎ OnlyWide wide (answer ≡ BAD_DEPTH))))

-- The call prepares a block that a vector moves for the average with another block.
pub record PreparesMoved (wide : Bool) (bit_depth : ℕ) (plane : MotionPlane) (block : MovedBlock) (src : List ℕ)
    (before after : List ℤ) (answer : ℕ) : Type 0 where
  -- The block can be moved, and the first values are its prepared values.
  pub done : answer ≡ DONE → IsPrepMoved (length before) plane (length src) block
      × (IfWide wide (IsDepth bit_depth)
      × HoldBlock bit_depth (motion_of plane block) (moved_source plane block src) before after)
  -- The call requires nothing else of its arguments.
  pub asked : IsPrepMoved (length before) plane (length src) block → IfWide wide (IsDepth bit_depth)
      → answer ≡ DONE
  -- The status names the first bad argument, and these clauses say what is wrong with it.
  pub size : answer ≡ BAD_SIZE → ¬ AreSides block.width block.height
  pub mode : answer ≡ BAD_MODE → HasNoFilters block
  pub area : answer ≡ BAD_AREA → HasNoSource plane (length src) block
  pub short : answer ≡ TOO_SHORT → HasFewValues (length before) plane (length src) block
  pub depth : answer ≡ BAD_DEPTH
      → OnlyWide wide (IsPrepMoved (length before) plane (length src) block × (¬ IsDepth bit_depth))
  -- If the call rejects an argument, the values are unchanged.
  pub kept : answer ≢ DONE → after ≡ before
  pub known : (answer ≡ DONE) ⊎ ((answer ≡ BAD_SIZE) ⊎ ((answer ≡ BAD_MODE) ⊎ ((answer ≡ BAD_AREA)
      ⊎ ((answer ≡ TOO_SHORT) ⊎ OnlyWide wide (answer ≡ BAD_DEPTH)))))

-- ---- definitions for private contracts: why nothing is written

abbrev pub IsPutMovedFault : (to : Place) (room : ℕ) → MotionPlane → (samples : ℕ) → MovedBlock → BadArgument → Type 0
IsPutMovedFault to room p samples b bad.Size = ¬ AreSides b.width b.height
IsPutMovedFault to room p samples b bad.Mode = HasNoFilters b
IsPutMovedFault to room p samples b bad.Area = HasNoPlace to room p samples b
IsPutMovedFault to room p samples b _ = ⊥

abbrev pub IsDeepMovedFault : (depth : ℕ) (to : Place) (room : ℕ) → MotionPlane → (samples : ℕ) → MovedBlock →
    BadArgument → Type 0
IsDeepMovedFault depth to room p samples b bad.Depth = IsPutMoved to room p samples b × (¬ IsDepth depth)
IsDeepMovedFault depth to room p samples b fault = IsPutMovedFault to room p samples b fault

abbrev pub IsPrepMovedFault : (room : ℕ) → MotionPlane → (samples : ℕ) → MovedBlock → BadArgument → Type 0
IsPrepMovedFault room p samples b bad.Size = ¬ AreSides b.width b.height
IsPrepMovedFault room p samples b bad.Mode = HasNoFilters b
IsPrepMovedFault room p samples b bad.Area = HasNoSource p samples b
IsPrepMovedFault room p samples b bad.Short = HasFewValues room p samples b
IsPrepMovedFault room p samples b _ = ⊥

abbrev pub IsDeepPrepMovedFault : (depth room : ℕ) → MotionPlane → (samples : ℕ) → MovedBlock → BadArgument → Type 0
IsDeepPrepMovedFault depth room p samples b bad.Depth = IsPrepMoved room p samples b × (¬ IsDepth depth)
IsDeepPrepMovedFault depth room p samples b fault = IsPrepMovedFault room p samples b fault

-- ---- definitions for private contracts: what is read

-- all columns (or rows) are visible that are read for `side` of them at a place and a fraction
pub record IsVisible (place : ℤ) (fraction side visible : ℕ) : Type 0 where
  pub first : pos (read_before fraction) ≤ℤ place
  pub last : (place -ℤ pos (read_before fraction) +ℤ pos (side + read_beside fraction)) ≤ℤ pos visible

-- all that is read for the block at a position is visible
pub record LiesWithin (p : MotionPlane) (b : MovedBlock) (place : MovedPlace) : Type 0 where
  pub columns : IsVisible place.x place.col_frac b.width p.width
  pub rows : IsVisible place.y place.row_frac b.height p.height

-- the position in the samples of the plane's buffer
abbrev pub stored_at : MotionPlane → MovedPlace → Place
stored_at p at = record { stride = p.stride; x = p.x + unsigned_abs at.x; y = p.y + unsigned_abs at.y }

-- the rectangle of a window that holds what is read for the block at these fractions
abbrev pub gathered_area : MovedBlock → (col_frac row_frac : ℕ) → StoredArea
gathered_area b fx fy = record { x = 0; y = 0; width = b.width + read_beside fx; height = b.height + read_beside fy }

-- the offset of the visible sample that is nearest to column x of row y
abbrev pub nearest_place : MotionPlane → (x y : ℤ) → ℕ
nearest_place p x y =
    (p.y + nearest_visible p.height y) * p.stride + p.x + nearest_visible p.width x

-- The visible column that is copied to column c of a window's row. The first `before` columns lie before the first
-- visible one. The next `inside` are visible, from column `start` on. All others lie after the last visible one.
abbrev pub gathered_column : (before start inside visible c : ℕ) → ℕ
gathered_column before start inside visible c =
    if nat_lt c before then 0 else (if nat_lt c (before + inside) then start + (c - before) else visible - 1)

-- The row has `count` columns, and begins at column `first` of the plane.
pub record AreParts (first : ℤ) (count visible before start inside : ℕ) : Type 0 where
  pub fits : before + inside ≤ count
  pub stored : start + inside ≤ visible
  pub same : (c : ℕ) → c < count →
      nearest_visible visible (first +ℤ pos c) ≡ gathered_column before start inside visible c
