-- The contracts of the calls that give the differences of luma from its mean, for a block of chroma in numbers. The
-- block's luma begins at column x of row y, and rows are `stride` samples apart. AV1 specification: predict chroma from
-- luma process.
use Rattle.std.specs.Prelude.{◌≡◌, ◌≢◌, ◌⊎◌, ℕ, ◌*◌, ◌^◌, ◌<◌, ◌≤◌, List, length, Some, slice_get, ℤ}
use Rattle.av1_blocks.specs.Blocks.{block_height, block_width}
use Rattle.av1_blocks.specs.declared.partition.BlockSize.{BlockSize}
use Rattle.av1_blocks.specs.declared.partition.TheConstants.BlockSize as block_sizes
use Rattle.av1_frame.specs.Areas.{AreRows}
use Rattle.av1_frame.specs.declared.plane_region.StoredArea.{StoredArea}
use Rattle.av1_intra.specs.ChromaFromLuma.{columns_read, luma_difference, padded_block, rows_read, with_rows}
use Rattle.av1_calls.specs.Samples.{AreBelow, area_sample}
use Rattle.av1_calls.specs.declared.argument.BadArgument.{BadArgument}
use Rattle.av1_calls.specs.declared.argument.BadArgument.TheVariants as bad
use Rattle.av1_calls.specs.declared.luma.CflBlock.{CflBlock}
use Rattle.av1_calls.specs.declared.status.TheConstants.{BAD_AREA, BAD_PAD, BAD_SAMPLING, BAD_SIZE, DONE, TOO_SHORT}

-- ---- what is required

-- this is the size of the number, at most 32 by 32
pub record IsChromaSize (number : ℕ) (size : BlockSize) : Type 0 where
  pub named : slice_get block_sizes.ALL number ≡ Some size
  pub narrow : block_width size ≤ 32
  pub low : block_height size ≤ 32

-- the subsampling of chroma in 4:4:4, 4:2:2 or 4:2:0
pub record IsSampling (xdec ydec : ℕ) : Type 0 where
  pub columns : xdec ≤ 1
  pub rows : ydec ≤ xdec

-- some columns and some rows of the block have luma of their own
pub record HasLuma (b : CflBlock) (size : BlockSize) : Type 0 where
  pub columns : 4 * b.w_pad < block_width size
  pub rows : 4 * b.h_pad < block_height size

-- the numbers name a block that has luma
pub record IsChroma (b : CflBlock) (size : BlockSize) : Type 0 where
  pub sized : IsChromaSize b.block_size size
  pub sampled : IsSampling b.xdec b.ydec
  pub padded : HasLuma b size

-- the rectangle of luma that is read for the block
abbrev pub luma_area : CflBlock → BlockSize → (x y : ℕ) → StoredArea
luma_area b size x y =
    let block = padded_block size b.w_pad b.h_pad b.xdec b.ydec in
    record { x = x; y = y; width = columns_read block; height = rows_read block }

-- The block has this size, and its luma lies in this many samples. There are at least as many differences as the block
-- has samples.
pub record IsCflBlock (b : CflBlock) (stride x y ac samples : ℕ) (size : BlockSize) : Type 0 where
  pub sized : IsChromaSize b.block_size size
  pub sampled : IsSampling b.xdec b.ydec
  pub padded : HasLuma b size
  pub rows : AreRows stride (luma_area b size x y) samples
  pub long : block_width size * block_height size ≤ ac

-- no sample that is read is past a depth of 12, which is the greatest
abbrev pub IsLumaTested : CflBlock → (stride x y : ℕ) → List ℕ → Type 0
IsLumaTested b stride x y samples = (size : BlockSize) → IsChroma b size →
    AreBelow (2 ^ 12) stride (luma_area b size x y) samples

-- ---- what is written

-- the sample at column p and row q of the luma of a rectangle
abbrev pub luma_in : (stride : ℕ) → StoredArea → List ℕ → (p q : ℕ) → ℕ
luma_in stride area samples p q = area_sample stride area samples q p

-- the list whose first entries are the differences of the block's luma, row by row; the others are unchanged
abbrev pub with_differences : CflBlock → BlockSize → (stride x y : ℕ) → List ℕ → List ℤ → List ℤ
with_differences b size stride x y samples ac =
    with_rows (block_width size) (block_height size)
    (luma_difference (luma_in stride (luma_area b size x y) samples)
    (padded_block size b.w_pad b.h_pad b.xdec b.ydec)) ac

-- ---- what is rejected: each reason includes that the tests before it passed

-- no size of at most 32 by 32 has the number
abbrev pub HasNoChromaSize : ℕ → Type 0
HasNoChromaSize number = (size : BlockSize) → ¬ IsChromaSize number size

abbrev pub HasNoSampling : CflBlock → Type 0
HasNoSampling b = (size : BlockSize) × (IsChromaSize b.block_size size × (¬ IsSampling b.xdec b.ydec))

-- no columns or no rows have luma of their own
abbrev pub HasNoLuma : CflBlock → Type 0
HasNoLuma b = (size : BlockSize) × (IsChromaSize b.block_size size × (IsSampling b.xdec b.ydec × (¬ HasLuma b size)))

-- the luma that is read does not lie in this many samples
abbrev pub LumaLiesOutside : CflBlock → (stride x y samples : ℕ) → Type 0
LumaLiesOutside b stride x y samples =
    (size : BlockSize) × (IsChroma b size × (¬ AreRows stride (luma_area b size x y) samples))

-- there are fewer differences than the block has samples
abbrev pub HasFewDifferences : CflBlock → (stride x y ac samples : ℕ) → Type 0
HasFewDifferences b stride x y ac samples =
    (size : BlockSize) ×
    (IsChroma b size ×
    (AreRows stride (luma_area b size x y) samples × (ac < block_width size * block_height size)))

-- ---- the contracts

-- The call gives the differences of luma. `before` is the list before the call, `after` after it, and
-- `answer` is the status.
pub record GivesDifferences (block : CflBlock) (stride x y : ℕ) (luma : List ℕ) (before after : List ℤ)
    (answer : ℕ) : Type 0 where
  -- The arguments name a block, and the differences are those of the block's luma.
  pub done : answer ≡ DONE → (size : BlockSize) × (IsCflBlock block stride x y (length before) (length luma) size
      × (after ≡ with_differences block size stride x y luma before))
  -- The call requires nothing else of its arguments.
  pub asked : (size : BlockSize) → IsCflBlock block stride x y (length before) (length luma) size → answer ≡ DONE
  -- The status names the first bad argument, and these clauses say what is wrong with it.
  pub size : answer ≡ BAD_SIZE → HasNoChromaSize block.block_size
  pub sampling : answer ≡ BAD_SAMPLING → HasNoSampling block
  pub pad : answer ≡ BAD_PAD → HasNoLuma block
  pub area : answer ≡ BAD_AREA → LumaLiesOutside block stride x y (length luma)
  pub short : answer ≡ TOO_SHORT → HasFewDifferences block stride x y (length before) (length luma)
  -- If the call rejects an argument, the differences are unchanged.
  pub kept : answer ≢ DONE → after ≡ before
  pub known : (answer ≡ DONE) ⊎ ((answer ≡ BAD_SIZE) ⊎ ((answer ≡ BAD_SAMPLING) ⊎ ((answer ≡ BAD_PAD)
      ⊎ ((answer ≡ BAD_AREA) ⊎ (answer ≡ TOO_SHORT)))))

-- ---- definitions for private contracts: why nothing is written

abbrev pub IsCflFault : CflBlock → (stride x y ac samples : ℕ) → BadArgument → Type 0
IsCflFault b stride x y ac samples bad.Size = HasNoChromaSize b.block_size
IsCflFault b stride x y ac samples bad.Sampling = HasNoSampling b
IsCflFault b stride x y ac samples bad.Pad = HasNoLuma b
IsCflFault b stride x y ac samples bad.Area = LumaLiesOutside b stride x y samples
IsCflFault b stride x y ac samples bad.Short = HasFewDifferences b stride x y ac samples
IsCflFault b stride x y ac samples _ = ⊥
