-- The questions of an intra prediction's edge: whether the samples that continue its sides are available.
-- AV1 specification: transform block syntax (haveAboveRt, haveBelowLft).
use Rattle.std.specs.Prelude.{ℕ, Bool, ◌+◌, ◌*◌, nat_lt, ◌&&◌, ◌||◌}
use Rattle.av1_blocks.specs.declared.partition.BlockSize.{BlockSize}
use Rattle.av1_blocks.specs.declared.transform.TxSize.{TxSize}
use Rattle.av1_blocks.specs.Chroma.{supersample_chroma_bsize}
use Rattle.av1_blocks.specs.Transforms.{tx_width, tx_height}
use Rattle.av1_avail.specs.Availability.{table_top_right, table_bottom_left}
use Rattle.av1_avail.specs.Cells.{transform_columns, transform_rows}

-- the row or column before a transform lies in the tile, if the transform begins `offset` units after the first unit of
-- a block that begins at the cell `cell`, in a plane of this decimation
abbrev pub has_before : (offset cell decimation : ℕ) → Bool
has_before offset cell decimation = nat_lt 0 offset || nat_lt decimation cell

-- A transform of size t is the one in column bx and row by of a leaf, counted in transforms. The leaf has the luma size
-- b and begins at the tile's cell at cx and cy. The plane has half of luma's columns if sx is 1, and half of its rows
-- if sy is 1.
module _ (b : BlockSize) (cx cy : ℕ) (t : TxSize) (bx by sx sy : ℕ) where
  -- The samples above right of a transform that begins at column x, in a plane of `columns` visible columns, are
  -- available. There is a row above it, a column after it is visible, and the table of the block that chroma belongs to
  -- says so.
  abbrev pub takes_above_right : (x columns : ℕ) → Bool
  takes_above_right x columns =
      has_before (by * transform_rows t) cy sy && nat_lt (x + tx_width t) columns
      && table_top_right (supersample_chroma_bsize b sx sy) cx cy (transform_columns t) (by * transform_rows t)
      (bx * transform_columns t) sx

  -- The samples below left of a transform that begins at row y, in a plane of `rows` visible rows, are available.
  abbrev pub takes_below_left : (y rows : ℕ) → Bool
  takes_below_left y rows =
      nat_lt (y + tx_height t) rows && has_before (bx * transform_columns t) cx sx
      && table_bottom_left (supersample_chroma_bsize b sx sy) cx cy (transform_rows t) (by * transform_rows t)
      (bx * transform_columns t) sx sy
