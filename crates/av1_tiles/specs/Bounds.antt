-- Valid bounds of the columns and rows of tiles, and grids that were read.
use Rattle.std.specs.Prelude.{◌≡◌, ℕ, ◌+◌, ◌-◌, ◌%◌, ◌<◌, ◌≤◌, ◌^◌, List, length, slice_index}
use Rattle.std.specs.List.{All}
use Rattle.av1_plan.specs.ReadPlans.{IsReadFrame, AreStoredSlots}
use Rattle.av1_tiles.specs.declared.file.Front.{Front}
use Rattle.av1_tiles.specs.declared.file.TileFile.{TileFile}
use Rattle.av1_tiles.specs.File.{front_value}
use Rattle.av1_tiles.specs.Grammar.{count_tiles}

-- The bounds of at most 32 columns or rows of a frame with this width or height. They rise from 0 to it, and each
-- except the last is a multiple of 64.
pub record AreBounds (side : ℕ) (bounds : List ℕ) : Type 0 where
  pub some : 2 ≤ length bounds
  pub few : length bounds ≤ 33
  pub first : slice_index bounds 0 ≡ 0
  pub last : slice_index bounds (length bounds - 1) ≡ side
  pub within : (k : ℕ) → k < length bounds → slice_index bounds k ≤ side
  pub whole : (k : ℕ) → k + 1 < length bounds → slice_index bounds k % 64 ≡ 0
  pub rising : (k : ℕ) → k + 1 < length bounds → slice_index bounds k < slice_index bounds (k + 1)

-- the fields before the parts, after they were read
pub record IsReadFront (f : Front) : Type 0 where
  pub frame : IsReadFrame f.header
  pub version : 2 ≤ f.header.version
  pub eight : length f.references.items ≡ 8
  pub slots : AreStoredSlots f.header f.references.items 8
  pub columns : AreBounds f.header.width f.columns.items
  pub rows : AreBounds f.header.height f.rows.items

-- a grid of tiles that was read: a part for each tile
pub record IsReadFile (f : TileFile) : Type 0 where
  pub front : IsReadFront f.front
  pub count : length f.parts.items ≡ count_tiles (front_value f.front)
  pub short : All (λ part. length part.now ≤ 2 ^ 26) f.parts.items
