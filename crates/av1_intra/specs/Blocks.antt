-- Conditions on a block that is predicted in place, and on a block of chroma over its luma.
use Rattle.std.specs.Prelude.{ℕ, ◌^◌, ◌<◌, ◌≤◌, ◌≡◌}
use Rattle.av1_frame.specs.Areas.{AreRows}
use Rattle.av1_frame.specs.Regions.{IsReadable}
use Rattle.av1_frame.specs.declared.plane_region.PlaneRegion.{PlaneRegion}
use Rattle.av1_frame.specs.declared.plane_region.StoredArea.{StoredArea}
use Rattle.av1_edges.specs.Edges.{region_sample}
use Rattle.av1_intra.specs.ChromaFromLuma.{columns_read, rows_read}
use Rattle.av1_intra.specs.declared.directional.DirectionalBlock.{DirectionalBlock}
use Rattle.av1_intra.specs.declared.luma.ChromaBlock.{ChromaBlock}

-- the block is the rectangle a of n samples, whose rows are `stride` apart, and has at most 64 columns and rows
pub record IsRectangle (b : DirectionalBlock) (stride : ℕ) (a : StoredArea) (n : ℕ) : Type 0 where
  pub rows : AreRows stride a n
  pub width : a.width ≡ b.width
  pub height : a.height ≡ b.height
  pub few_columns : b.width ≤ 64
  pub few_rows : b.height ≤ 64

-- the block of chroma has samples, in at most 128 columns and rows, and its luma ends among the first 2 ^ 16
pub record IsChroma (b : ChromaBlock) : Type 0 where
  pub xdec : b.xdec ≤ 1
  pub ydec : b.ydec ≤ 1
  pub some_columns : 0 < b.width
  pub some_rows : 0 < b.height
  pub width : b.width ≤ 128
  pub height : b.height ≤ 128
  pub last_column : b.last_column < 2 ^ 16
  pub last_row : b.last_row < 2 ^ 16

-- the region begins with the luma that the block of chroma reads, of at most 12 bits
pub record HasLuma {T : Type 0} (num : T → ℕ) (luma : PlaneRegion T) (b : ChromaBlock) : Type 0 where
  pub readable : IsReadable luma
  pub columns : columns_read b ≤ luma.area.width
  pub rows : rows_read b ≤ luma.area.height
  pub low : (x y : ℕ) → x < columns_read b → y < rows_read b → region_sample num luma x y < 4096
