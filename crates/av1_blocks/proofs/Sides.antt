-- How long the sides of blocks and transforms are at least and at most.
use Rattle.std.proofs.Common.{◌≤◌, lit≤}
use Rattle.av1_blocks.specs.declared.partition.BlockSize.{BlockSize}
use Rattle.av1_blocks.specs.declared.partition.BlockSize.TheVariants.{BLOCK_4X4}
use Rattle.av1_blocks.specs.declared.transform.TxSize.{TxSize}
use Rattle.av1_blocks.specs.declared.transform.TxSize.TheVariants.{TX_4X4}
use Rattle.av1_blocks.specs.Blocks.{block_width, block_height}
use Rattle.av1_blocks.specs.Transforms.{tx_width, tx_height}

pub block_width_range : (b : BlockSize) → (4 ≤ block_width b) × (block_width b ≤ 128)
block_width_range BLOCK_4X4 = (lit≤ tt, lit≤ tt)
block_width_range _ = (lit≤ tt, lit≤ tt)

pub block_height_range : (b : BlockSize) → (4 ≤ block_height b) × (block_height b ≤ 128)
block_height_range BLOCK_4X4 = (lit≤ tt, lit≤ tt)
block_height_range _ = (lit≤ tt, lit≤ tt)

pub tx_width_range : (t : TxSize) → (4 ≤ tx_width t) × (tx_width t ≤ 64)
tx_width_range TX_4X4 = (lit≤ tt, lit≤ tt)
tx_width_range _ = (lit≤ tt, lit≤ tt)

pub tx_height_range : (t : TxSize) → (4 ≤ tx_height t) × (tx_height t ≤ 64)
tx_height_range TX_4X4 = (lit≤ tt, lit≤ tt)
tx_height_range _ = (lit≤ tt, lit≤ tt)
