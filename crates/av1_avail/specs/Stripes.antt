-- A 4:1 block is one of four stripes of a square, and its list in a table follows from the list of the square with its
-- greater side.
use Rattle.std.specs.Prelude.{◌≡◌, ℕ, Bool, not, ◌*◌, ◌/◌, ◌%◌, ◌<◌, ◌==◌, ◌&&◌, ◌||◌}
use Rattle.av1_blocks.specs.declared.partition.BlockSize.{BlockSize}
use Rattle.av1_blocks.specs.Blocks.{block_width, block_height}
use Rattle.av1_avail.specs.Cells.{block_columns, block_rows}
use Rattle.av1_avail.specs.Tables.{block_bit, top_right_table, bottom_left_table}

-- The block is a stripe from top to bottom of the square: as high as it, and a quarter as wide.
pub record IsUpright (b square : BlockSize) : Type 0 where
  pub height : block_height b ≡ block_height square
  pub width : 4 * block_width b ≡ block_width square
  pub square_sides : block_width square ≡ block_height square

-- The block is a stripe from left to right of the square: as wide as it, and a quarter as high.
pub record IsFlat (b square : BlockSize) : Type 0 where
  pub width : block_width b ≡ block_width square
  pub height : 4 * block_height b ≡ block_height square
  pub square_sides : block_width square ≡ block_height square

-- A row and a column of blocks of the size, in the tables' raster of 32 by 32 cells.
pub record IsInRaster (b : BlockSize) (row column : ℕ) : Type 0 where
  pub row_within : row < 32 / block_rows b
  pub column_within : column < 32 / block_columns b

-- Above right of an upright stripe: coded, except for the last stripe: there it is as above right of the square.
abbrev pub upright_top_right : (square : BlockSize) (row column : ℕ) → Bool
upright_top_right square row column =
    not (column % 4 == 3) || block_bit (top_right_table square) square row (column / 4)

-- Above right of a flat stripe: not coded, except for the first stripe: there it is as above right of the square.
abbrev pub flat_top_right : (square : BlockSize) (row column : ℕ) → Bool
flat_top_right square row column = row % 4 == 0 && block_bit (top_right_table square) square (row / 4) column

-- Below left of an upright stripe: not coded, except for the first stripe: there it is as below left of the square.
abbrev pub upright_bottom_left : (square : BlockSize) (row column : ℕ) → Bool
upright_bottom_left square row column = column % 4 == 0 && block_bit (bottom_left_table square) square row (column / 4)

-- Below left of a flat stripe: coded, except for the last stripe: there it is as below left of the square.
abbrev pub flat_bottom_left : (square : BlockSize) (row column : ℕ) → Bool
flat_bottom_left square row column = not (row % 4 == 3) || block_bit (bottom_left_table square) square (row / 4) column
