-- The contract of the call that finds the block of chroma over a block of luma. AV1 specification: predict chroma from
-- luma process.
use Rattle.std.specs.Prelude.{◌≡◌, ◌≢◌, ◌⊎◌, ℕ, ◌-◌, ◌*◌, ◌/◌, ◌^◌, ◌<◌, ◌≤◌, Ok}
use Rattle.av1_blocks.specs.Blocks.{block_height, block_width}
use Rattle.av1_blocks.specs.Chroma.{subsampled_size}
use Rattle.av1_blocks.specs.declared.partition.BlockSize.{BlockSize}
use Rattle.av1_blocks.specs.declared.transform.TxSize.{TxSize}
use Rattle.av1_intra.specs.ChromaFromLuma.{chroma_block, coded_side, padded_block}
use Rattle.av1_intra.specs.declared.luma.LumaLeaf.{LumaLeaf}
use Rattle.av1_calls.specs.Arguments.{IsSize}
use Rattle.av1_calls.specs.IntraEdges.{IsBlockSize}
use Rattle.av1_calls.specs.LumaBlocks.{IsChroma, IsSampling}
use Rattle.av1_calls.specs.declared.argument.BadArgument.{BadArgument}
use Rattle.av1_calls.specs.declared.argument.BadArgument.TheVariants as bad
use Rattle.av1_calls.specs.declared.cfl_block.LumaLeafBlock.{LumaLeafBlock}
use Rattle.av1_calls.specs.declared.luma.CflBlock.{CflBlock}
use Rattle.av1_calls.specs.declared.status.TheConstants.{BAD_PAD, BAD_SAMPLING, BAD_SIZE, DONE}

-- ---- what is required

-- this is the size of a block's chroma, at most 32 by 32
pub record IsChromaSizeOf (luma : BlockSize) (xdec ydec : ℕ) (chroma : BlockSize) : Type 0 where
  pub halved : subsampled_size luma xdec ydec ≡ Ok chroma
  pub narrow : block_width chroma ≤ 32
  pub low : block_height chroma ≤ 32

abbrev pub HasNoChromaSizeOf : (luma : BlockSize) → (xdec ydec : ℕ) → Type 0
HasNoChromaSizeOf luma xdec ydec = (chroma : BlockSize) → ¬ IsChromaSizeOf luma xdec ydec chroma

-- the numbers name the sizes of a block, of its luma transforms and of its chroma
pub record AreSizes (l : LumaLeafBlock) (luma : BlockSize) (transform : TxSize) (chroma : BlockSize) : Type 0 where
  pub blocked : IsBlockSize l.block_size luma
  pub sized : IsSize l.tx_size transform
  pub chroma_sized : IsChromaSizeOf luma l.xdec l.ydec chroma

-- some columns and some rows of the block's luma are visible
pub record IsVisible (l : LumaLeafBlock) : Type 0 where
  pub columns : 0 < l.visible_columns
  pub rows : 0 < l.visible_rows

-- the block as a leaf whose luma begins with the first sample of its plane
abbrev pub leaf_of : LumaLeafBlock → BlockSize → TxSize → LumaLeaf
leaf_of l luma transform = record {
  x = 0;
  y = 0;
  bsize = luma;
  tx_size = transform;
  visible_width = l.visible_columns;
  visible_height = l.visible_rows;
  xdec = l.xdec;
  ydec = l.ydec;
}

-- This is the leaf's block of chroma. Some of it has luma of its own, and it reads the same luma as the leaf's chroma
-- does.
pub record IsChromaOf (l : LumaLeafBlock) (block : CflBlock) : Type 0 where
  pub luma : BlockSize
  pub transform : TxSize
  pub chroma : BlockSize
  pub sizes : AreSizes l luma transform chroma
  pub is_chroma : IsChroma block chroma
  pub same : padded_block chroma block.w_pad block.h_pad block.xdec block.ydec
      ≡ chroma_block (leaf_of l luma transform)

-- ---- what is rejected: each reason includes that the tests before it passed

-- no size has a number, or the block has no chroma of at most 32 by 32
abbrev pub HasNoSizes : LumaLeafBlock → Type 0
HasNoSizes l = (luma : BlockSize) → (transform : TxSize) → (chroma : BlockSize) → ¬ AreSizes l luma transform chroma

-- no column or no row of the block's luma is visible
abbrev pub IsHidden : LumaLeafBlock → Type 0
IsHidden l =
    (luma : BlockSize) × ((transform : TxSize) × ((chroma : BlockSize) × (AreSizes l luma transform chroma
    × (¬ IsVisible l))))

-- ---- the contracts

-- The call finds a block of chroma: `before` is the block before the call, `after` after it, and `answer` is the
-- status.
pub record FindsChroma (l : LumaLeafBlock) (before after : CflBlock) (answer : ℕ) : Type 0 where
  -- The numbers name a block with luma, and this is its block of chroma.
  pub done : answer ≡ DONE → IsChromaOf l after
  -- The call requires nothing else of its arguments.
  pub asked : (luma : BlockSize) → (transform : TxSize) → (chroma : BlockSize) → IsSampling l.xdec l.ydec
      → AreSizes l luma transform chroma → IsVisible l → answer ≡ DONE
  -- The status names the first bad argument, and these clauses say what is wrong with it.
  pub sampling : answer ≡ BAD_SAMPLING → ¬ IsSampling l.xdec l.ydec
  pub size : answer ≡ BAD_SIZE → IsSampling l.xdec l.ydec × HasNoSizes l
  pub pad : answer ≡ BAD_PAD → IsSampling l.xdec l.ydec × IsHidden l
  -- If the call rejects an argument, the block is unchanged.
  pub kept : answer ≢ DONE → after ≡ before
  pub known : (answer ≡ DONE) ⊎ ((answer ≡ BAD_SAMPLING) ⊎ ((answer ≡ BAD_SIZE) ⊎ (answer ≡ BAD_PAD)))

-- ---- definitions for private contracts: why nothing is written

abbrev pub IsLumaFault : LumaLeafBlock → BadArgument → Type 0
IsLumaFault l bad.Sampling = ¬ IsSampling l.xdec l.ydec
IsLumaFault l bad.Size = IsSampling l.xdec l.ydec × HasNoSizes l
IsLumaFault l bad.Pad = IsSampling l.xdec l.ydec × IsHidden l
IsLumaFault l fault = ⊥

-- ---- definitions for private contracts

-- how many units of 4 samples of chroma have no luma of their own, in one direction
abbrev pub pad_along : (side tx_side visible decimation : ℕ) → ℕ
pad_along side tx_side visible decimation =
    (side - coded_side 0 side tx_side visible) / (4 * 2 ^ decimation)
