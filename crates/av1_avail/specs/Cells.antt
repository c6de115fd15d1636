-- The sides of blocks in cells of 4 by 4 luma samples, and of transforms in units of 4 by 4 samples of their plane.
use Rattle.std.specs.Prelude.{ℕ, ◌+◌, ◌-◌, ◌/◌, ◌%◌}
use Rattle.av1_blocks.specs.declared.partition.BlockSize.{BlockSize}
use Rattle.av1_blocks.specs.declared.transform.TxSize.{TxSize}
use Rattle.av1_blocks.specs.Blocks.{block_width, block_height}
use Rattle.av1_blocks.specs.Transforms.{tx_width, tx_height}

-- The number of columns of cells of a block.
abbrev pub block_columns : BlockSize → ℕ
block_columns b = block_width b / 4

-- The number of rows of cells of a block.
abbrev pub block_rows : BlockSize → ℕ
block_rows b = block_height b / 4

-- The number of columns of units of a transform.
abbrev pub transform_columns : TxSize → ℕ
transform_columns t = tx_width t / 4

-- The number of rows of units of a transform.
abbrev pub transform_rows : TxSize → ℕ
transform_rows t = tx_height t / 4

-- Blocks of this side lie side by side from the tile's first cell on. The first cell of the one that holds the tile's
-- cell c, counted from one superblock before the tile.
abbrev pub corner : (side c : ℕ) → ℕ
corner side c = 16 + (c - c % side)
