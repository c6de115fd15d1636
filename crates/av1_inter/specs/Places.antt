-- The positions at which a block reads its reference.
use Rattle.std.specs.Prelude.{◌≡◌, ℕ, zero, suc, ◌+◌, ◌*◌, ◌^◌, ◌<◌, ◌≤◌, pos, ◌+ℤ◌, ◌-ℤ◌, ◌≤ℤ◌, List, map}
use Rattle.std.specs.Prelude.{slice_index}
use Rattle.av1_frame.specs.declared.plane_slice.PlaneSlice.{PlaneSlice}
use Rattle.av1_frame.specs.Slices.{stored_sample, slice_plane}

-- the position 3 columns to the left and 3 rows above, where the taps for the first sample begin
abbrev pub corner_of : {T : Type 0} → PlaneSlice T → PlaneSlice T
corner_of place = record place { x = place.x -ℤ pos 3; y = place.y -ℤ pos 3 }

-- the stored sample at column x and row y, counted from a position
abbrev pub samples_from : {T : Type 0} → (T → ℕ) → PlaneSlice T → (x y : ℕ) → ℕ
samples_from num place x y = stored_sample num (slice_plane place) (place.x +ℤ pos x) (place.y +ℤ pos y)

-- from a position on, this many columns and rows are stored
pub record IsStoredFrom {T : Type 0} (place : PlaneSlice T) (columns rows : ℕ) : Type 0 where
  pub left : pos 0 ≤ℤ (pos place.plane_cfg.now.xorigin +ℤ place.x)
  pub right : (pos place.plane_cfg.now.xorigin +ℤ place.x +ℤ pos columns) ≤ℤ pos place.plane_cfg.now.stride
  pub top : pos 0 ≤ℤ (pos place.plane_cfg.now.yorigin +ℤ place.y)
  pub bottom : (pos place.plane_cfg.now.yorigin +ℤ place.y +ℤ pos rows) ≤ℤ pos place.plane_cfg.now.alloc_height

-- the samples of these columns and rows lie within the depth
abbrev pub AreWithinDepth : ℕ → (ℕ → ℕ → ℕ) → (columns rows : ℕ) → Type 0
AreWithinDepth depth samples columns rows = (x y : ℕ) → x < columns → y < rows → samples x y < 2 ^ depth

-- A block reads only what its fractions need. In a direction in which it is not moved by part of a sample, it reads as
-- many columns (or rows) as it has. Else the taps reach 3 before the block and 4 after it.
abbrev pub read_before : (fraction : ℕ) → ℕ
read_before zero = 0
read_before (suc _) = 3

abbrev pub read_beside : (fraction : ℕ) → ℕ
read_beside zero = 0
read_beside (suc _) = 7

-- the place of a column (or row) that is read, counted from 3 before the block; x counts from the first that is read
abbrev pub read_place : (fraction x : ℕ) → ℕ
read_place zero x = x + 3
read_place (suc _) x = x

-- n samples hold `rows` rows of `columns` columns, in rows of this stride. The last row may end with its samples.
abbrev pub HoldRows : (n stride columns rows : ℕ) → Type 0
HoldRows n stride columns rows = (y : ℕ) → y < rows → y * stride + columns ≤ n

-- the number of the sample at column x and row y of some samples
abbrev pub sample_in : {T : Type 0} → (T → ℕ) → (samples : List T) → (stride : ℕ) → (x y : ℕ) → ℕ
sample_in num samples stride x y = slice_index (map num samples) (y * stride + x)

-- `around`, counted from 3 columns left of a block and 3 rows above, has what is read for the block
abbrev pub IsReadFrom : (fx fy width height : ℕ) → (read around : ℕ → ℕ → ℕ) → Type 0
IsReadFrom fx fy width height read around =
    (x y : ℕ) → x < width + read_beside fx → y < height + read_beside fy →
    read x y ≡ around (read_place fx x) (read_place fy y)
