-- The contracts of the calls on blocks of references: which arguments are valid, and what is written.
use Rattle.std.specs.Prelude.{◌≡◌, ◌≢◌, ◌⊎◌, ◌==◌, if◌then◌else◌, Bool, ℕ, ◌+◌, ◌-◌, ◌*◌, ◌<◌, ◌≤◌, true, List}
use Rattle.std.specs.Prelude.{length, slice_index, ℤ}
use Rattle.av1_blocks.specs.Depths.{IsDepth}
use Rattle.av1_blocks.specs.declared.mc.FilterMode.{FilterMode}
use Rattle.av1_blocks.specs.declared.mc.FilterMode.TheVariants.{SHARP}
use Rattle.av1_frame.specs.Areas.{AreRows}
use Rattle.av1_frame.specs.Samples.{paint}
use Rattle.av1_frame.specs.declared.plane_region.StoredArea.{StoredArea}
use Rattle.av1_inter.specs.Filters.{filter_of, mode_along}
use Rattle.av1_inter.specs.Motion.{averaged, entry, prepared, single}
use Rattle.av1_inter.specs.Places.{AreWithinDepth, read_before, read_beside}
use Rattle.av1_calls.specs.Arguments.{IfWide, OnlyWide, filter_mode}
use Rattle.av1_calls.specs.Samples.{AreHeld, area_sample}
use Rattle.av1_calls.specs.declared.argument.BadArgument.{BadArgument}
use Rattle.av1_calls.specs.declared.argument.BadArgument.TheVariants as bad
use Rattle.av1_calls.specs.declared.motion.MotionBlock.{MotionBlock}
use Rattle.av1_calls.specs.declared.motion.Place.{Place}
use Rattle.av1_calls.specs.declared.motion.TheConstants.{RAV1E_SHARP}
use Rattle.av1_calls.specs.declared.status.TheConstants.{BAD_AREA, BAD_DEPTH, BAD_FRACTION, BAD_MODE, BAD_SAMPLE}
use Rattle.av1_calls.specs.declared.status.TheConstants.{BAD_SIZE, DONE, TOO_SHORT}

-- ---- a block and its places

abbrev pub place : (stride x y : ℕ) → Place
place stride x y = record { stride = stride; x = x; y = y }

-- the rectangle of these dimensions from a place on
abbrev pub rectangle_at : Place → (width height : ℕ) → StoredArea
rectangle_at at width height = record { x = at.x; y = at.y; width = width; height = height }

-- What is read for a block at a place. If a fraction is 0, these are only the block's columns (or rows). Else 3 more
-- before the block and 4 more after it are read.
abbrev pub read_for : Place → MotionBlock → StoredArea
read_for from block = record {
  x = from.x - read_before block.col_frac;
  y = from.y - read_before block.row_frac;
  width = block.width + read_beside block.col_frac;
  height = block.height + read_beside block.row_frac;
}

-- the sample at column x and row y of what is read
abbrev pub read_at : Place → MotionBlock → List ℕ → (x y : ℕ) → ℕ
read_at from block samples x y = area_sample from.stride (read_for from block) samples y x

-- the sample at column c and row r of those round the block, counted from 3 columns left of it and 3 rows above
abbrev pub source_at : Place → List ℕ → (c r : ℕ) → ℕ
source_at from samples c r = slice_index samples ((from.y + r - 3) * from.stride + (from.x + c - 3))

-- no sample that is read is past the depth
abbrev pub IsReadWithin : (depth : ℕ) → Place → MotionBlock → List ℕ → Type 0
IsReadWithin depth from block samples = AreWithinDepth depth (read_at from block samples)
    (block.width + read_beside block.col_frac) (block.height + read_beside block.row_frac)

-- ---- what is required

-- the width and the height are from 1 to 128
pub record AreSides (width height : ℕ) : Type 0 where
  pub some_columns : 0 < width
  pub wide : width ≤ 128
  pub some_rows : 0 < height
  pub high : height ≤ 128

-- the number of a filter in plans, or of rav1e's sharp filter
abbrev pub IsFilterNumber : ℕ → Type 0
IsFilterNumber number = (number < 4) ⊎ (number ≡ RAV1E_SHARP)

-- both of the block's filters have such a number
pub record AreFilters (block : MotionBlock) : Type 0 where
  pub across : IsFilterNumber block.filter_x
  pub down : IsFilterNumber block.filter_y

-- both fractions are less than a sample
pub record AreFractions (block : MotionBlock) : Type 0 where
  pub columns : block.col_frac < 16
  pub rows : block.row_frac < 16

-- the block's own numbers are valid
pub record IsMotionBlock (block : MotionBlock) : Type 0 where
  pub sides : AreSides block.width block.height
  pub filters : AreFilters block
  pub fractions : AreFractions block

-- all that is read for a block lies in this many samples
pub record IsSource (from : Place) (block : MotionBlock) (samples : ℕ) : Type 0 where
  pub left : read_before block.col_frac ≤ from.x
  pub top : read_before block.row_frac ≤ from.y
  pub rows : AreHeld from.stride (read_for from block) samples

-- The block can be read from a place in this many samples.
pub record IsMotion (from : Place) (block : MotionBlock) (samples : ℕ) : Type 0 where
  pub sides : AreSides block.width block.height
  pub filters : AreFilters block
  pub fractions : AreFractions block
  pub source : IsSource from block samples

-- The block can be read, and can be written to a place in `room` samples.
pub record IsPut (to : Place) (room : ℕ) (from : Place) (samples : ℕ) (block : MotionBlock) : Type 0 where
  pub motion : IsMotion from block samples
  pub rows : AreRows to.stride (rectangle_at to block.width block.height) room

-- The block can be read, and can be prepared in `room` values.
pub record IsPrep (room : ℕ) (from : Place) (samples : ℕ) (block : MotionBlock) : Type 0 where
  pub motion : IsMotion from block samples
  pub long : block.height * block.width ≤ room

-- Two prepared blocks have these dimensions, and `first` and `second` values. Their average can be written to a place
-- in `room` samples.
pub record IsAverage (to : Place) (room width height first second : ℕ) : Type 0 where
  pub sides : AreSides width height
  pub rows : AreRows to.stride (rectangle_at to width height) room
  pub first_long : height * width ≤ first
  pub second_long : height * width ≤ second

-- The depth is valid, and no sample that is read for the block is past it.
pub record AreOfDepth (depth : ℕ) (from : Place) (samples : List ℕ) (block : MotionBlock) : Type 0 where
  pub is_depth : IsDepth depth
  pub within : IsReadWithin depth from block samples

-- ---- what is written

-- AV1's filter of a number along a side; the number of rav1e's sharp filter gives `SHARP` of `av1_inter` along all
-- sides
abbrev pub filter_along : (number side : ℕ) → FilterMode
filter_along number side = if number == RAV1E_SHARP then SHARP else mode_along true (filter_mode number) side

-- the weights of the filters for a block: along its rows, and down its columns
abbrev pub across_of : MotionBlock → List ℤ
across_of block = filter_of (filter_along block.filter_x block.width) block.col_frac block.width

abbrev pub down_of : MotionBlock → List ℤ
down_of block = filter_of (filter_along block.filter_y block.height) block.row_frac block.height

-- the sample at row r and column c of the block
abbrev pub moved_sample : (depth : ℕ) → MotionBlock → (ℕ → ℕ → ℕ) → (r c : ℕ) → ℕ
moved_sample depth block source r c =
    single depth block.col_frac block.row_frac (across_of block) (down_of block) source r c

-- the samples with the block in its rectangle; the others are unchanged
abbrev pub with_block : (depth : ℕ) → (to : Place) → MotionBlock → (ℕ → ℕ → ℕ) → List ℕ → List ℕ
with_block depth to block source samples =
    paint to.stride (rectangle_at to block.width block.height) (λ r c _. moved_sample depth block source r c) samples

-- The first values are the prepared values of the block, row by row. The values after them are unchanged.
pub record HoldBlock (depth : ℕ) (block : MotionBlock) (source : ℕ → ℕ → ℕ) (before after : List ℤ) : Type 0 where
  pub values : (r c : ℕ) → r < block.height → c < block.width →
      entry after (r * block.width + c) ≡ prepared depth block.col_frac block.row_frac (across_of block)
      (down_of block) source r c
  pub others : (i : ℕ) → block.height * block.width ≤ i → entry after i ≡ entry before i

-- the samples with the averages of prepared values in the rectangle; the others are unchanged
abbrev pub with_average : (depth : ℕ) → (to : Place) → (width height : ℕ) → (first second : List ℤ) → List ℕ → List ℕ
with_average depth to width height first second samples =
    paint to.stride (rectangle_at to width height)
    (λ r c _. averaged depth (entry first (r * width + c)) (entry second (r * width + c))) samples

-- ---- what is rejected: each reason includes that the tests before it passed

abbrev pub HasNoFilters : MotionBlock → Type 0
HasNoFilters block = AreSides block.width block.height × (¬ AreFilters block)

abbrev pub HasNoFractions : MotionBlock → Type 0
HasNoFractions block = AreSides block.width block.height × (AreFilters block × (¬ AreFractions block))

-- what is read for the block does not lie in the samples
abbrev pub HasNoSource : (from : Place) → MotionBlock → (samples : ℕ) → Type 0
HasNoSource from block samples = IsMotionBlock block × (¬ IsSource from block samples)

-- what is read for the block does not lie in its samples, or the block's rectangle does not lie in its own
abbrev pub HasNoPlace : (to : Place) (room : ℕ) (from : Place) (samples : ℕ) → MotionBlock → Type 0
HasNoPlace to room from samples block =
    IsMotionBlock block ×
    ((¬ IsSource from block samples) ⊎ (¬ AreRows to.stride (rectangle_at to block.width block.height) room))

-- there are fewer values than the block has samples
abbrev pub HasFewValues : (room : ℕ) (from : Place) (samples : ℕ) → MotionBlock → Type 0
HasFewValues room from samples block = IsMotion from block samples × (room < block.height * block.width)

-- some sample that is read for the block is past the depth
abbrev pub HasDeepSample : (depth : ℕ) → (from : Place) → List ℕ → MotionBlock → Type 0
HasDeepSample depth from samples block =
    IsDepth depth × (¬ IsReadWithin depth from block samples)

-- the rectangle of an average does not lie in the samples
abbrev pub LiesNowhere : (to : Place) (room width height : ℕ) → Type 0
LiesNowhere to room width height = AreSides width height × (¬ AreRows to.stride (rectangle_at to width height) room)

-- one of two blocks has fewer values than their average has samples
abbrev pub HasFewOfTwo : (to : Place) (room width height first second : ℕ) → Type 0
HasFewOfTwo to room width height first second =
    AreSides width height ×
    (AreRows to.stride (rectangle_at to width height) room × ((first < height * width) ⊎ (second < height * width)))

-- the statuses of the calls
abbrev pub IsPutStatus : (wide : Bool) → ℕ → Type 0
IsPutStatus wide status =
    (status ≡ DONE) ⊎ ((status ≡ BAD_SIZE) ⊎ ((status ≡ BAD_MODE) ⊎ ((status ≡ BAD_FRACTION) ⊎ ((status ≡ BAD_AREA)
    ⊎ OnlyWide wide ((status ≡ BAD_DEPTH) ⊎ (status ≡ BAD_SAMPLE))))))

abbrev pub IsPrepStatus : (wide : Bool) → ℕ → Type 0
IsPrepStatus wide status = IsPutStatus wide status ⊎ (status ≡ TOO_SHORT)

abbrev pub IsAverageStatus : (wide : Bool) → ℕ → Type 0
IsAverageStatus wide status =
    (status ≡ DONE) ⊎
    ((status ≡ BAD_SIZE) ⊎ ((status ≡ BAD_AREA) ⊎ ((status ≡ TOO_SHORT) ⊎ OnlyWide wide (status ≡ BAD_DEPTH))))

-- ---- the contracts: `before` is what there was before the call, `after` after it, and `answer` is the status

-- The call predicts a block from a reference, at this depth.
pub record Puts (wide : Bool) (bit_depth : ℕ) (to from : Place) (block : MotionBlock) (src before after : List ℕ)
    (answer : ℕ) : Type 0 where
  -- The block can be read and written, and its rectangle holds the block.
  pub done : answer ≡ DONE → IsPut to (length before) from (length src) block
      × (IfWide wide (AreOfDepth bit_depth from src block)
      × (after ≡ with_block bit_depth to block (source_at from src) before))
  -- The call requires nothing else of its arguments.
  pub asked : IsPut to (length before) from (length src) block → IfWide wide (AreOfDepth bit_depth from src block)
      → answer ≡ DONE
  -- The status names the first bad argument, and these clauses say what is wrong with it.
  pub size : answer ≡ BAD_SIZE → ¬ AreSides block.width block.height
  pub mode : answer ≡ BAD_MODE → HasNoFilters block
  pub fraction : answer ≡ BAD_FRACTION → HasNoFractions block
  pub area : answer ≡ BAD_AREA → HasNoPlace to (length before) from (length src) block
  pub depth : answer ≡ BAD_DEPTH
      → OnlyWide wide (IsPut to (length before) from (length src) block × (¬ IsDepth bit_depth))
  pub sample : answer ≡ BAD_SAMPLE
      → OnlyWide wide (IsPut to (length before) from (length src) block × HasDeepSample bit_depth from src block)
  -- If the call rejects an argument, the samples are unchanged.
  pub kept : answer ≢ DONE → after ≡ before
  pub known : IsPutStatus wide answer

-- The call prepares a block from a reference, at this depth.
pub record Prepares (wide : Bool) (bit_depth : ℕ) (from : Place) (block : MotionBlock) (src : List ℕ)
    (before after : List ℤ) (answer : ℕ) : Type 0 where
  -- The block can be read, and the first values are its prepared values.
  pub done : answer ≡ DONE → IsPrep (length before) from (length src) block
      × (IfWide wide (AreOfDepth bit_depth from src block)
      × HoldBlock bit_depth block (source_at from src) before after)
  -- The call requires nothing else of its arguments.
  pub asked : IsPrep (length before) from (length src) block → IfWide wide (AreOfDepth bit_depth from src block)
      → answer ≡ DONE
  -- The status names the first bad argument, and these clauses say what is wrong with it.
  pub size : answer ≡ BAD_SIZE → ¬ AreSides block.width block.height
  pub mode : answer ≡ BAD_MODE → HasNoFilters block
  pub fraction : answer ≡ BAD_FRACTION → HasNoFractions block
  pub area : answer ≡ BAD_AREA → HasNoSource from block (length src)
  pub short : answer ≡ TOO_SHORT → HasFewValues (length before) from (length src) block
  pub depth : answer ≡ BAD_DEPTH
      → OnlyWide wide (IsPrep (length before) from (length src) block × (¬ IsDepth bit_depth))
  pub sample : answer ≡ BAD_SAMPLE
      → OnlyWide wide (IsPrep (length before) from (length src) block × HasDeepSample bit_depth from src block)
  -- If the call rejects an argument, the values are unchanged.
  pub kept : answer ≢ DONE → after ≡ before
  pub known : IsPrepStatus wide answer

-- The call averages two prepared blocks, at this depth.
pub record Averages (wide : Bool) (bit_depth : ℕ) (to : Place) (width height : ℕ) (first second : List ℤ)
    (before after : List ℕ) (answer : ℕ) : Type 0 where
  -- The rectangle can be written, and holds the averages.
  pub done : answer ≡ DONE → IsAverage to (length before) width height (length first) (length second)
      × (IfWide wide (IsDepth bit_depth)
      × (after ≡ with_average bit_depth to width height first second before))
  -- The call requires nothing else of its arguments.
  pub asked : IsAverage to (length before) width height (length first) (length second) → IfWide wide (IsDepth bit_depth)
      → answer ≡ DONE
  -- The status names the first bad argument, and these clauses say what is wrong with it.
  pub size : answer ≡ BAD_SIZE → ¬ AreSides width height
  pub area : answer ≡ BAD_AREA → LiesNowhere to (length before) width height
  pub short : answer ≡ TOO_SHORT → HasFewOfTwo to (length before) width height (length first) (length second)
  pub depth : answer ≡ BAD_DEPTH
      → OnlyWide wide (IsAverage to (length before) width height (length first) (length second) × (¬ IsDepth bit_depth))
  -- If the call rejects an argument, the samples are unchanged.
  pub kept : answer ≢ DONE → after ≡ before
  pub known : IsAverageStatus wide answer

-- ---- definitions for private contracts: why nothing is written

abbrev pub IsMotionFault : (from : Place) (samples : ℕ) → MotionBlock → BadArgument → Type 0
IsMotionFault from samples block bad.Size = ¬ AreSides block.width block.height
IsMotionFault from samples block bad.Mode = HasNoFilters block
IsMotionFault from samples block bad.Fraction = HasNoFractions block
IsMotionFault from samples block bad.Area = HasNoSource from block samples
IsMotionFault from samples block _ = ⊥

abbrev pub IsPutFault : (to : Place) (room : ℕ) (from : Place) (samples : ℕ) → MotionBlock → BadArgument → Type 0
IsPutFault to room from samples block bad.Size = ¬ AreSides block.width block.height
IsPutFault to room from samples block bad.Mode = HasNoFilters block
IsPutFault to room from samples block bad.Fraction = HasNoFractions block
IsPutFault to room from samples block bad.Area = HasNoPlace to room from samples block
IsPutFault to room from samples block _ = ⊥

abbrev pub IsPrepFault : (room : ℕ) (from : Place) (samples : ℕ) → MotionBlock → BadArgument → Type 0
IsPrepFault room from samples block bad.Size = ¬ AreSides block.width block.height
IsPrepFault room from samples block bad.Mode = HasNoFilters block
IsPrepFault room from samples block bad.Fraction = HasNoFractions block
IsPrepFault room from samples block bad.Area = HasNoSource from block samples
IsPrepFault room from samples block bad.Short = HasFewValues room from samples block
IsPrepFault room from samples block _ = ⊥

abbrev pub IsAverageFault : (to : Place) (room width height first second : ℕ) → BadArgument → Type 0
IsAverageFault to room width height first second bad.Size = ¬ AreSides width height
IsAverageFault to room width height first second bad.Area = LiesNowhere to room width height
IsAverageFault to room width height first second bad.Short = HasFewOfTwo to room width height first second
IsAverageFault to room width height first second _ = ⊥

abbrev pub IsDeepPutFault : (depth : ℕ) (to : Place) (room : ℕ) (from : Place) → List ℕ → MotionBlock →
    BadArgument → Type 0
IsDeepPutFault depth to room from samples block bad.Depth = IsPut to room from (length samples) block ×
    (¬ IsDepth depth)
IsDeepPutFault depth to room from samples block bad.Sample = IsPut to room from (length samples) block ×
    HasDeepSample depth from samples block
IsDeepPutFault depth to room from samples block fault = IsPutFault to room from (length samples) block fault

abbrev pub IsDeepPrepFault : (depth room : ℕ) (from : Place) → List ℕ → MotionBlock → BadArgument → Type 0
IsDeepPrepFault depth room from samples block bad.Depth = IsPrep room from (length samples) block × (¬ IsDepth depth)
IsDeepPrepFault depth room from samples block bad.Sample = IsPrep room from (length samples) block ×
    HasDeepSample depth from samples block
IsDeepPrepFault depth room from samples block fault = IsPrepFault room from (length samples) block fault

abbrev pub IsDeepAverageFault : (depth : ℕ) (to : Place) (room width height first second : ℕ) → BadArgument → Type 0
IsDeepAverageFault depth to room width height first second bad.Depth = IsAverage to room width height first second ×
    (¬ IsDepth depth)
IsDeepAverageFault depth to room width height first second fault =
    IsAverageFault to room width height first second fault
