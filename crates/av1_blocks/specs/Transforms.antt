-- The sides of transforms in samples of their plane, their types, and which go together.
use Rattle.std.specs.Prelude.{◌≡◌, ℕ, ◌*◌, ◌==◌, ◌||◌, min, max, Bool, true, false, List, [], ◌∷◌, if◌then◌else◌}
use Rattle.av1_blocks.specs.declared.partition.BlockSize.{BlockSize}
use Rattle.av1_blocks.specs.declared.partition.BlockSize.TheVariants.{BLOCK_4X4, BLOCK_4X8, BLOCK_8X4, BLOCK_8X8}
use Rattle.av1_blocks.specs.declared.partition.BlockSize.TheVariants.{BLOCK_8X16, BLOCK_16X8, BLOCK_16X16, BLOCK_16X32}
use Rattle.av1_blocks.specs.declared.partition.BlockSize.TheVariants.{BLOCK_32X16, BLOCK_32X32, BLOCK_32X64}
use Rattle.av1_blocks.specs.declared.partition.BlockSize.TheVariants.{BLOCK_64X32, BLOCK_64X64, BLOCK_64X128}
use Rattle.av1_blocks.specs.declared.partition.BlockSize.TheVariants.{BLOCK_128X64, BLOCK_128X128, BLOCK_4X16}
use Rattle.av1_blocks.specs.declared.partition.BlockSize.TheVariants.{BLOCK_16X4, BLOCK_8X32, BLOCK_32X8, BLOCK_16X64}
use Rattle.av1_blocks.specs.declared.partition.BlockSize.TheVariants.{BLOCK_64X16}
use Rattle.av1_blocks.specs.declared.transform.TxSize.{TxSize}
use Rattle.av1_blocks.specs.declared.transform.TxSize.TheVariants.{TX_4X4, TX_8X8, TX_16X16, TX_32X32, TX_64X64, TX_4X8}
use Rattle.av1_blocks.specs.declared.transform.TxSize.TheVariants.{TX_8X4, TX_8X16, TX_16X8, TX_16X32, TX_32X16}
use Rattle.av1_blocks.specs.declared.transform.TxSize.TheVariants.{TX_32X64, TX_64X32, TX_4X16, TX_16X4, TX_8X32}
use Rattle.av1_blocks.specs.declared.transform.TxSize.TheVariants.{TX_32X8, TX_16X64, TX_64X16}
use Rattle.av1_blocks.specs.declared.transform.TxType.{TxType}
use Rattle.av1_blocks.specs.declared.transform.TxType.TheVariants.{DCT_DCT, ADST_DCT, DCT_ADST, ADST_ADST, FLIPADST_DCT}
use Rattle.av1_blocks.specs.declared.transform.TxType.TheVariants.{DCT_FLIPADST, FLIPADST_FLIPADST, ADST_FLIPADST}
use Rattle.av1_blocks.specs.declared.transform.TxType.TheVariants.{FLIPADST_ADST, IDTX, V_DCT, H_DCT, V_ADST, H_ADST}
use Rattle.av1_blocks.specs.declared.transform.TxType.TheVariants.{V_FLIPADST, H_FLIPADST, WHT_WHT}

-- The number of a size.
abbrev pub tx_number : TxSize → ℕ
tx_number TX_4X4 = 0
tx_number TX_8X8 = 1
tx_number TX_16X16 = 2
tx_number TX_32X32 = 3
tx_number TX_64X64 = 4
tx_number TX_4X8 = 5
tx_number TX_8X4 = 6
tx_number TX_8X16 = 7
tx_number TX_16X8 = 8
tx_number TX_16X32 = 9
tx_number TX_32X16 = 10
tx_number TX_32X64 = 11
tx_number TX_64X32 = 12
tx_number TX_4X16 = 13
tx_number TX_16X4 = 14
tx_number TX_8X32 = 15
tx_number TX_32X8 = 16
tx_number TX_16X64 = 17
tx_number TX_64X16 = 18

-- The width in samples.
abbrev pub tx_width : TxSize → ℕ
tx_width TX_4X4 = 4
tx_width TX_8X8 = 8
tx_width TX_16X16 = 16
tx_width TX_32X32 = 32
tx_width TX_64X64 = 64
tx_width TX_4X8 = 4
tx_width TX_8X4 = 8
tx_width TX_8X16 = 8
tx_width TX_16X8 = 16
tx_width TX_16X32 = 16
tx_width TX_32X16 = 32
tx_width TX_32X64 = 32
tx_width TX_64X32 = 64
tx_width TX_4X16 = 4
tx_width TX_16X4 = 16
tx_width TX_8X32 = 8
tx_width TX_32X8 = 32
tx_width TX_16X64 = 16
tx_width TX_64X16 = 64

-- The height in samples.
abbrev pub tx_height : TxSize → ℕ
tx_height TX_4X4 = 4
tx_height TX_8X8 = 8
tx_height TX_16X16 = 16
tx_height TX_32X32 = 32
tx_height TX_64X64 = 64
tx_height TX_4X8 = 8
tx_height TX_8X4 = 4
tx_height TX_8X16 = 16
tx_height TX_16X8 = 8
tx_height TX_16X32 = 32
tx_height TX_32X16 = 16
tx_height TX_32X64 = 64
tx_height TX_64X32 = 32
tx_height TX_4X16 = 16
tx_height TX_16X4 = 4
tx_height TX_8X32 = 32
tx_height TX_32X8 = 8
tx_height TX_16X64 = 64
tx_height TX_64X16 = 16

-- Some transform has these sides.
abbrev pub HasTxSides : (width height : ℕ) → Type 0
HasTxSides width height = (t : TxSize) × (tx_width t ≡ width) × (tx_height t ≡ height)

-- The transform is a square of this side.
pub record IsTxSquare (t : TxSize) (side : ℕ) : Type 0 where
  pub width : tx_width t ≡ side
  pub height : tx_height t ≡ side

-- The square of the lesser side.
abbrev pub tx_sqr : TxSize → TxSize
tx_sqr TX_4X4 = TX_4X4
tx_sqr TX_8X8 = TX_8X8
tx_sqr TX_16X16 = TX_16X16
tx_sqr TX_32X32 = TX_32X32
tx_sqr TX_64X64 = TX_64X64
tx_sqr TX_4X8 = TX_4X4
tx_sqr TX_8X4 = TX_4X4
tx_sqr TX_8X16 = TX_8X8
tx_sqr TX_16X8 = TX_8X8
tx_sqr TX_16X32 = TX_16X16
tx_sqr TX_32X16 = TX_16X16
tx_sqr TX_32X64 = TX_32X32
tx_sqr TX_64X32 = TX_32X32
tx_sqr TX_4X16 = TX_4X4
tx_sqr TX_16X4 = TX_4X4
tx_sqr TX_8X32 = TX_8X8
tx_sqr TX_32X8 = TX_8X8
tx_sqr TX_16X64 = TX_16X16
tx_sqr TX_64X16 = TX_16X16

-- The square of the greater side.
abbrev pub tx_sqr_up : TxSize → TxSize
tx_sqr_up TX_4X4 = TX_4X4
tx_sqr_up TX_8X8 = TX_8X8
tx_sqr_up TX_16X16 = TX_16X16
tx_sqr_up TX_32X32 = TX_32X32
tx_sqr_up TX_64X64 = TX_64X64
tx_sqr_up TX_4X8 = TX_8X8
tx_sqr_up TX_8X4 = TX_8X8
tx_sqr_up TX_8X16 = TX_16X16
tx_sqr_up TX_16X8 = TX_16X16
tx_sqr_up TX_16X32 = TX_32X32
tx_sqr_up TX_32X16 = TX_32X32
tx_sqr_up TX_32X64 = TX_64X64
tx_sqr_up TX_64X32 = TX_64X64
tx_sqr_up TX_4X16 = TX_16X16
tx_sqr_up TX_16X4 = TX_16X16
tx_sqr_up TX_8X32 = TX_32X32
tx_sqr_up TX_32X8 = TX_32X32
tx_sqr_up TX_16X64 = TX_64X64
tx_sqr_up TX_64X16 = TX_64X64

-- The greatest transform of a block: with the block's sides, or 64x64 if a side is 128.
abbrev pub block_tx_size : BlockSize → TxSize
block_tx_size BLOCK_4X4 = TX_4X4
block_tx_size BLOCK_4X8 = TX_4X8
block_tx_size BLOCK_8X4 = TX_8X4
block_tx_size BLOCK_8X8 = TX_8X8
block_tx_size BLOCK_8X16 = TX_8X16
block_tx_size BLOCK_16X8 = TX_16X8
block_tx_size BLOCK_16X16 = TX_16X16
block_tx_size BLOCK_16X32 = TX_16X32
block_tx_size BLOCK_32X16 = TX_32X16
block_tx_size BLOCK_32X32 = TX_32X32
block_tx_size BLOCK_32X64 = TX_32X64
block_tx_size BLOCK_64X32 = TX_64X32
block_tx_size BLOCK_64X64 = TX_64X64
block_tx_size BLOCK_64X128 = TX_64X64
block_tx_size BLOCK_128X64 = TX_64X64
block_tx_size BLOCK_128X128 = TX_64X64
block_tx_size BLOCK_4X16 = TX_4X16
block_tx_size BLOCK_16X4 = TX_16X4
block_tx_size BLOCK_8X32 = TX_8X32
block_tx_size BLOCK_32X8 = TX_32X8
block_tx_size BLOCK_16X64 = TX_16X64
block_tx_size BLOCK_64X16 = TX_64X16

-- The block of a transform's sides.
abbrev pub tx_block_size : TxSize → BlockSize
tx_block_size TX_4X4 = BLOCK_4X4
tx_block_size TX_8X8 = BLOCK_8X8
tx_block_size TX_16X16 = BLOCK_16X16
tx_block_size TX_32X32 = BLOCK_32X32
tx_block_size TX_64X64 = BLOCK_64X64
tx_block_size TX_4X8 = BLOCK_4X8
tx_block_size TX_8X4 = BLOCK_8X4
tx_block_size TX_8X16 = BLOCK_8X16
tx_block_size TX_16X8 = BLOCK_16X8
tx_block_size TX_16X32 = BLOCK_16X32
tx_block_size TX_32X16 = BLOCK_32X16
tx_block_size TX_32X64 = BLOCK_32X64
tx_block_size TX_64X32 = BLOCK_64X32
tx_block_size TX_4X16 = BLOCK_4X16
tx_block_size TX_16X4 = BLOCK_16X4
tx_block_size TX_8X32 = BLOCK_8X32
tx_block_size TX_32X8 = BLOCK_32X8
tx_block_size TX_16X64 = BLOCK_16X64
tx_block_size TX_64X16 = BLOCK_64X16

-- The size as it is coded: with 32 in place of 64.
abbrev pub coded_tx_size : TxSize → TxSize
coded_tx_size TX_64X64 = TX_32X32
coded_tx_size TX_64X32 = TX_32X32
coded_tx_size TX_32X64 = TX_32X32
coded_tx_size TX_16X64 = TX_16X32
coded_tx_size TX_64X16 = TX_32X16
coded_tx_size t = t

-- The number of rows or columns with coefficients, of n rows or columns of a transform.
abbrev pub coded : ℕ → ℕ
coded n = min n 32

-- The number of coefficients of a transform: those of its first 32 columns and rows.
abbrev pub coded_area : TxSize → ℕ
coded_area size = coded (tx_width size) * coded (tx_height size)

-- The number of a type.
abbrev pub tx_type_number : TxType → ℕ
tx_type_number DCT_DCT = 0
tx_type_number ADST_DCT = 1
tx_type_number DCT_ADST = 2
tx_type_number ADST_ADST = 3
tx_type_number FLIPADST_DCT = 4
tx_type_number DCT_FLIPADST = 5
tx_type_number FLIPADST_FLIPADST = 6
tx_type_number ADST_FLIPADST = 7
tx_type_number FLIPADST_ADST = 8
tx_type_number IDTX = 9
tx_type_number V_DCT = 10
tx_type_number H_DCT = 11
tx_type_number V_ADST = 12
tx_type_number H_ADST = 13
tx_type_number V_FLIPADST = 14
tx_type_number H_FLIPADST = 15
tx_type_number WHT_WHT = 16

-- The cosine transform in both directions.
abbrev pub is_dct : TxType → Bool
is_dct DCT_DCT = true
is_dct _ = false

-- The identity in both directions.
abbrev pub is_identity : TxType → Bool
is_identity IDTX = true
is_identity _ = false

-- Whether the type may be used at the size: only DCT_DCT if the longer side is 64, also IDTX if it is 32, and every
-- type if it is shorter.
abbrev pub valid_av1_transform : TxSize → TxType → Bool
valid_av1_transform size type =
    let side = max (tx_width size) (tx_height size) in
    if side == 64 then is_dct type else (if side == 32 then is_dct type || is_identity type else true)

-- The type that chroma of the greater side 32 takes from luma's.
abbrev pub kept_identity : TxType → TxType
kept_identity IDTX = IDTX
kept_identity _ = DCT_DCT

-- The type that chroma of the lesser side 16 takes from luma's.
abbrev pub without_single_sines : TxType → TxType
without_single_sines V_ADST = DCT_DCT
without_single_sines H_ADST = DCT_DCT
without_single_sines V_FLIPADST = DCT_DCT
without_single_sines H_FLIPADST = DCT_DCT
without_single_sines type = type

-- The type that inter chroma of a size takes from luma's: "compute transform type" of the AV1 specification.
abbrev pub uv_inter : TxType → TxSize → TxType
uv_inter type size =
    if max (tx_width size) (tx_height size) == 32 then kept_identity type
    else (if min (tx_width size) (tx_height size) == 16 then without_single_sines type else type)

-- The types that rav1e tries.
abbrev pub tried_types : List TxType
tried_types = DCT_DCT ∷ ADST_DCT ∷ DCT_ADST ∷ ADST_ADST ∷ IDTX ∷ V_DCT ∷ H_DCT ∷ []
