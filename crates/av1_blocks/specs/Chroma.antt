-- The block and the transform of a decimated plane.
use Rattle.std.specs.Prelude.{◌≡◌, ℕ, ◌==◌, ◌&&◌, ◌/◌, ◌^◌, max, not, Bool, if◌then◌else◌, Result, Ok, Err}
use Rattle.av1_blocks.specs.declared.partition.BlockSize.{BlockSize}
use Rattle.av1_blocks.specs.declared.partition.BlockSize.TheVariants.{BLOCK_4X4, BLOCK_4X8, BLOCK_8X4, BLOCK_8X8}
use Rattle.av1_blocks.specs.declared.partition.BlockSize.TheVariants.{BLOCK_8X16, BLOCK_16X8, BLOCK_16X16, BLOCK_16X32}
use Rattle.av1_blocks.specs.declared.partition.BlockSize.TheVariants.{BLOCK_32X16, BLOCK_32X32, BLOCK_32X64}
use Rattle.av1_blocks.specs.declared.partition.BlockSize.TheVariants.{BLOCK_64X32, BLOCK_64X64, BLOCK_64X128}
use Rattle.av1_blocks.specs.declared.partition.BlockSize.TheVariants.{BLOCK_128X64, BLOCK_128X128, BLOCK_4X16}
use Rattle.av1_blocks.specs.declared.partition.BlockSize.TheVariants.{BLOCK_16X4, BLOCK_8X32, BLOCK_32X8, BLOCK_16X64}
use Rattle.av1_blocks.specs.declared.partition.BlockSize.TheVariants.{BLOCK_64X16}
use Rattle.av1_blocks.specs.declared.partition.InvalidBlockSize.{InvalidBlockSize}
use Rattle.av1_blocks.specs.declared.transform.TxSize.{TxSize}
use Rattle.std.specs.Result.{result_unwrap_or}
use Rattle.av1_blocks.specs.Blocks.{block_width, block_height}
use Rattle.av1_blocks.specs.Transforms.{block_tx_size, coded_tx_size}

-- The block with half the columns, at least 4; none if the block is taller than wide.
abbrev pub halved_columns : BlockSize → Result BlockSize InvalidBlockSize
halved_columns BLOCK_4X4 = Ok BLOCK_4X4
halved_columns BLOCK_8X4 = Ok BLOCK_4X4
halved_columns BLOCK_8X8 = Ok BLOCK_4X8
halved_columns BLOCK_16X8 = Ok BLOCK_8X8
halved_columns BLOCK_16X16 = Ok BLOCK_8X16
halved_columns BLOCK_32X16 = Ok BLOCK_16X16
halved_columns BLOCK_32X32 = Ok BLOCK_16X32
halved_columns BLOCK_64X32 = Ok BLOCK_32X32
halved_columns BLOCK_64X64 = Ok BLOCK_32X64
halved_columns BLOCK_128X64 = Ok BLOCK_64X64
halved_columns BLOCK_128X128 = Ok BLOCK_64X128
halved_columns BLOCK_16X4 = Ok BLOCK_8X4
halved_columns BLOCK_32X8 = Ok BLOCK_16X8
halved_columns BLOCK_64X16 = Ok BLOCK_32X16
halved_columns _ = Err (record {})

-- The block with half the columns and half the rows, each at least 4.
abbrev pub halved : BlockSize → BlockSize
halved BLOCK_4X4 = BLOCK_4X4
halved BLOCK_4X8 = BLOCK_4X4
halved BLOCK_8X4 = BLOCK_4X4
halved BLOCK_8X8 = BLOCK_4X4
halved BLOCK_8X16 = BLOCK_4X8
halved BLOCK_16X8 = BLOCK_8X4
halved BLOCK_16X16 = BLOCK_8X8
halved BLOCK_16X32 = BLOCK_8X16
halved BLOCK_32X16 = BLOCK_16X8
halved BLOCK_32X32 = BLOCK_16X16
halved BLOCK_32X64 = BLOCK_16X32
halved BLOCK_64X32 = BLOCK_32X16
halved BLOCK_64X64 = BLOCK_32X32
halved BLOCK_64X128 = BLOCK_32X64
halved BLOCK_128X64 = BLOCK_64X32
halved BLOCK_128X128 = BLOCK_64X64
halved BLOCK_4X16 = BLOCK_4X8
halved BLOCK_16X4 = BLOCK_8X4
halved BLOCK_8X32 = BLOCK_4X16
halved BLOCK_32X8 = BLOCK_16X4
halved BLOCK_16X64 = BLOCK_8X32
halved BLOCK_64X16 = BLOCK_32X8

-- The block of a plane of these decimations: the function `Subsampled_Size` of the AV1 specification.
abbrev pub subsampled_size : BlockSize → (xdec ydec : ℕ) → Result BlockSize InvalidBlockSize
subsampled_size b xdec ydec =
    if xdec == 0 && ydec == 0 then Ok b
    else (if xdec == 1 && ydec == 0 then halved_columns b
    else (if xdec == 1 && ydec == 1 then Ok (halved b) else Err (record {})))

-- A side of the plane's block: the luma side decimated, and at least 4.
abbrev pub plane_side : (side decimation : ℕ) → ℕ
plane_side side decimation = max 4 (side / 2 ^ decimation)

-- The plane's block has the decimated sides.
pub record IsSubsampled (block : BlockSize) (xdec ydec : ℕ) (plane_block : BlockSize) : Type 0 where
  pub width : block_width plane_block ≡ plane_side (block_width block) xdec
  pub height : block_height plane_block ≡ plane_side (block_height block) ydec

-- The size of the chroma transforms of a block: the greatest that fits the plane's block, as it is coded.
abbrev pub largest_chroma_tx_size : BlockSize → (xdec ydec : ℕ) → TxSize
largest_chroma_tx_size b xdec ydec = coded_tx_size (block_tx_size (result_unwrap_or (subsampled_size b xdec ydec) b))

-- The columns are decimated, and the block has only 4.
abbrev pub is_narrow : BlockSize → (xdec : ℕ) → Bool
is_narrow b xdec = not (xdec == 0) && block_width b == 4

-- The rows are decimated, and the block has only 4.
abbrev pub is_low : BlockSize → (ydec : ℕ) → Bool
is_low b ydec = not (ydec == 0) && block_height b == 4

-- The block with twice the columns, if it has 4 luma samples of them.
abbrev pub widened : BlockSize → BlockSize
widened BLOCK_4X4 = BLOCK_8X4
widened BLOCK_4X8 = BLOCK_8X8
widened BLOCK_4X16 = BLOCK_8X16
widened b = b

-- The block with twice the rows, if it has 4 luma samples of them.
abbrev pub heightened : BlockSize → BlockSize
heightened BLOCK_4X4 = BLOCK_4X8
heightened BLOCK_8X4 = BLOCK_8X8
heightened BLOCK_16X4 = BLOCK_16X8
heightened b = b

-- The luma block to which the chroma of a block belongs: at least 8 samples in each decimated direction.
abbrev pub supersample_chroma_bsize : BlockSize → (ss_x ss_y : ℕ) → BlockSize
supersample_chroma_bsize b ss_x ss_y =
    let wide = if ss_x == 0 then b else widened b in
    if ss_y == 0 then wide else heightened wide
