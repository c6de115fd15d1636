-- For the blocks of each size in a raster 128 luma samples wide and high: whether the samples above right, and those
-- below left, are coded before the block. The lists are rav1e's. Only bits of blocks in the first 64x64 samples are
-- ever read. The AV1 specification has no such tables: it keeps flags of what is decoded (clear block decoded flags
-- function).
use Rattle.std.specs.Prelude.{ℕ, List, [], ◌∷◌, Bool, ◌+◌, ◌*◌, ◌/◌, ◌%◌, ◌^◌, ◌==◌, slice_index}
use Rattle.av1_blocks.specs.declared.partition.BlockSize.{BlockSize}
use Rattle.av1_blocks.specs.declared.partition.BlockSize.TheVariants.{BLOCK_4X4, BLOCK_4X8, BLOCK_8X4, BLOCK_8X8}
use Rattle.av1_blocks.specs.declared.partition.BlockSize.TheVariants.{BLOCK_8X16, BLOCK_16X8, BLOCK_16X16, BLOCK_16X32}
use Rattle.av1_blocks.specs.declared.partition.BlockSize.TheVariants.{BLOCK_32X16, BLOCK_32X32, BLOCK_32X64}
use Rattle.av1_blocks.specs.declared.partition.BlockSize.TheVariants.{BLOCK_64X32, BLOCK_64X64, BLOCK_64X128}
use Rattle.av1_blocks.specs.declared.partition.BlockSize.TheVariants.{BLOCK_128X64, BLOCK_128X128, BLOCK_4X16}
use Rattle.av1_blocks.specs.declared.partition.BlockSize.TheVariants.{BLOCK_16X4, BLOCK_8X32, BLOCK_32X8, BLOCK_16X64}
use Rattle.av1_blocks.specs.declared.partition.BlockSize.TheVariants.{BLOCK_64X16}
use Rattle.av1_avail.specs.Cells.{block_columns}

-- Bit i of a list of bytes: bit `i % 8` of entry `i / 8`.
abbrev pub table_bit : List ℕ → ℕ → Bool
table_bit bytes i = slice_index bytes (i / 8) / 2 ^ (i % 8) % 2 == 1

-- The bit of the block of this size in this row and column of blocks.
abbrev pub block_bit : List ℕ → BlockSize → (row column : ℕ) → Bool
block_bit bytes b row column = table_bit bytes (row * (32 / block_columns b) + column)

-- Above right.
abbrev pub top_right_table : BlockSize → List ℕ
top_right_table BLOCK_4X4 =
    255 ∷ 255 ∷ 255 ∷ 255 ∷ 85 ∷ 85 ∷ 85 ∷ 85 ∷ 119 ∷ 119 ∷ 119 ∷ 119 ∷ 85 ∷ 85 ∷ 85 ∷ 85 ∷
    127 ∷ 127 ∷ 127 ∷ 127 ∷ 85 ∷ 85 ∷ 85 ∷ 85 ∷ 119 ∷ 119 ∷ 119 ∷ 119 ∷ 85 ∷ 85 ∷ 85 ∷ 85 ∷
    255 ∷ 127 ∷ 255 ∷ 127 ∷ 85 ∷ 85 ∷ 85 ∷ 85 ∷ 119 ∷ 119 ∷ 119 ∷ 119 ∷ 85 ∷ 85 ∷ 85 ∷ 85 ∷
    127 ∷ 127 ∷ 127 ∷ 127 ∷ 85 ∷ 85 ∷ 85 ∷ 85 ∷ 119 ∷ 119 ∷ 119 ∷ 119 ∷ 85 ∷ 85 ∷ 85 ∷ 85 ∷
    255 ∷ 255 ∷ 255 ∷ 127 ∷ 85 ∷ 85 ∷ 85 ∷ 85 ∷ 119 ∷ 119 ∷ 119 ∷ 119 ∷ 85 ∷ 85 ∷ 85 ∷ 85 ∷
    127 ∷ 127 ∷ 127 ∷ 127 ∷ 85 ∷ 85 ∷ 85 ∷ 85 ∷ 119 ∷ 119 ∷ 119 ∷ 119 ∷ 85 ∷ 85 ∷ 85 ∷ 85 ∷
    255 ∷ 127 ∷ 255 ∷ 127 ∷ 85 ∷ 85 ∷ 85 ∷ 85 ∷ 119 ∷ 119 ∷ 119 ∷ 119 ∷ 85 ∷ 85 ∷ 85 ∷ 85 ∷
    127 ∷ 127 ∷ 127 ∷ 127 ∷ 85 ∷ 85 ∷ 85 ∷ 85 ∷ 119 ∷ 119 ∷ 119 ∷ 119 ∷ 85 ∷ 85 ∷ 85 ∷ 85 ∷
    []
top_right_table BLOCK_4X8 =
    255 ∷ 255 ∷ 255 ∷ 255 ∷ 119 ∷ 119 ∷ 119 ∷ 119 ∷ 127 ∷ 127 ∷ 127 ∷ 127 ∷ 119 ∷ 119 ∷ 119 ∷ 119 ∷
    255 ∷ 127 ∷ 255 ∷ 127 ∷ 119 ∷ 119 ∷ 119 ∷ 119 ∷ 127 ∷ 127 ∷ 127 ∷ 127 ∷ 119 ∷ 119 ∷ 119 ∷ 119 ∷
    255 ∷ 255 ∷ 255 ∷ 127 ∷ 119 ∷ 119 ∷ 119 ∷ 119 ∷ 127 ∷ 127 ∷ 127 ∷ 127 ∷ 119 ∷ 119 ∷ 119 ∷ 119 ∷
    255 ∷ 127 ∷ 255 ∷ 127 ∷ 119 ∷ 119 ∷ 119 ∷ 119 ∷ 127 ∷ 127 ∷ 127 ∷ 127 ∷ 119 ∷ 119 ∷ 119 ∷ 119 ∷
    []
top_right_table BLOCK_8X4 =
    255 ∷ 255 ∷ 0 ∷ 0 ∷ 85 ∷ 85 ∷ 0 ∷ 0 ∷ 119 ∷ 119 ∷ 0 ∷ 0 ∷ 85 ∷ 85 ∷ 0 ∷ 0 ∷
    127 ∷ 127 ∷ 0 ∷ 0 ∷ 85 ∷ 85 ∷ 0 ∷ 0 ∷ 119 ∷ 119 ∷ 0 ∷ 0 ∷ 85 ∷ 85 ∷ 0 ∷ 0 ∷
    255 ∷ 127 ∷ 0 ∷ 0 ∷ 85 ∷ 85 ∷ 0 ∷ 0 ∷ 119 ∷ 119 ∷ 0 ∷ 0 ∷ 85 ∷ 85 ∷ 0 ∷ 0 ∷
    127 ∷ 127 ∷ 0 ∷ 0 ∷ 85 ∷ 85 ∷ 0 ∷ 0 ∷ 119 ∷ 119 ∷ 0 ∷ 0 ∷ 85 ∷ 85 ∷ 0 ∷ 0 ∷
    []
top_right_table BLOCK_8X8 =
    255 ∷ 255 ∷ 85 ∷ 85 ∷ 119 ∷ 119 ∷ 85 ∷ 85 ∷ 127 ∷ 127 ∷ 85 ∷ 85 ∷ 119 ∷ 119 ∷ 85 ∷ 85 ∷
    255 ∷ 127 ∷ 85 ∷ 85 ∷ 119 ∷ 119 ∷ 85 ∷ 85 ∷ 127 ∷ 127 ∷ 85 ∷ 85 ∷ 119 ∷ 119 ∷ 85 ∷ 85 ∷
    []
top_right_table BLOCK_8X16 = 255 ∷ 255 ∷ 119 ∷ 119 ∷ 127 ∷ 127 ∷ 119 ∷ 119 ∷ 255 ∷ 127 ∷ 119 ∷ 119 ∷ 127 ∷ 127 ∷ 119 ∷
    119 ∷ []
top_right_table BLOCK_16X8 = 255 ∷ 0 ∷ 85 ∷ 0 ∷ 119 ∷ 0 ∷ 85 ∷ 0 ∷ 127 ∷ 0 ∷ 85 ∷ 0 ∷ 119 ∷ 0 ∷ 85 ∷ 0 ∷ []
top_right_table BLOCK_16X16 = 255 ∷ 85 ∷ 119 ∷ 85 ∷ 127 ∷ 85 ∷ 119 ∷ 85 ∷ []
top_right_table BLOCK_16X32 = 255 ∷ 119 ∷ 127 ∷ 119 ∷ []
top_right_table BLOCK_32X16 = 15 ∷ 5 ∷ 7 ∷ 5 ∷ []
top_right_table BLOCK_32X32 = 95 ∷ 87 ∷ []
top_right_table BLOCK_32X64 = 127 ∷ []
top_right_table BLOCK_64X32 = 19 ∷ []
top_right_table BLOCK_64X64 = 7 ∷ []
top_right_table BLOCK_64X128 = 3 ∷ []
top_right_table BLOCK_128X64 = 1 ∷ []
top_right_table BLOCK_128X128 = 1 ∷ []
top_right_table BLOCK_4X16 =
    255 ∷ 255 ∷ 255 ∷ 255 ∷ 127 ∷ 127 ∷ 127 ∷ 127 ∷ 255 ∷ 127 ∷ 255 ∷ 127 ∷ 127 ∷ 127 ∷ 127 ∷ 127 ∷
    255 ∷ 255 ∷ 255 ∷ 127 ∷ 127 ∷ 127 ∷ 127 ∷ 127 ∷ 255 ∷ 127 ∷ 255 ∷ 127 ∷ 127 ∷ 127 ∷ 127 ∷ 127 ∷
    []
top_right_table BLOCK_16X4 =
    255 ∷ 0 ∷ 0 ∷ 0 ∷ 85 ∷ 0 ∷ 0 ∷ 0 ∷ 119 ∷ 0 ∷ 0 ∷ 0 ∷ 85 ∷ 0 ∷ 0 ∷ 0 ∷
    127 ∷ 0 ∷ 0 ∷ 0 ∷ 85 ∷ 0 ∷ 0 ∷ 0 ∷ 119 ∷ 0 ∷ 0 ∷ 0 ∷ 85 ∷ 0 ∷ 0 ∷ 0 ∷
    []
top_right_table BLOCK_8X32 = 255 ∷ 255 ∷ 127 ∷ 127 ∷ 255 ∷ 127 ∷ 127 ∷ 127 ∷ []
top_right_table BLOCK_32X8 = 15 ∷ 0 ∷ 5 ∷ 0 ∷ 7 ∷ 0 ∷ 5 ∷ 0 ∷ []
top_right_table BLOCK_16X64 = 255 ∷ 127 ∷ []
top_right_table BLOCK_64X16 = 3 ∷ 1 ∷ []

-- Below left.
abbrev pub bottom_left_table : BlockSize → List ℕ
bottom_left_table BLOCK_4X4 =
    84 ∷ 85 ∷ 85 ∷ 85 ∷ 16 ∷ 17 ∷ 17 ∷ 17 ∷ 84 ∷ 85 ∷ 85 ∷ 85 ∷ 0 ∷ 1 ∷ 1 ∷ 1 ∷
    84 ∷ 85 ∷ 85 ∷ 85 ∷ 16 ∷ 17 ∷ 17 ∷ 17 ∷ 84 ∷ 85 ∷ 85 ∷ 85 ∷ 0 ∷ 0 ∷ 1 ∷ 0 ∷
    84 ∷ 85 ∷ 85 ∷ 85 ∷ 16 ∷ 17 ∷ 17 ∷ 17 ∷ 84 ∷ 85 ∷ 85 ∷ 85 ∷ 0 ∷ 1 ∷ 1 ∷ 1 ∷
    84 ∷ 85 ∷ 85 ∷ 85 ∷ 16 ∷ 17 ∷ 17 ∷ 17 ∷ 84 ∷ 85 ∷ 85 ∷ 85 ∷ 0 ∷ 0 ∷ 0 ∷ 0 ∷
    84 ∷ 85 ∷ 85 ∷ 85 ∷ 16 ∷ 17 ∷ 17 ∷ 17 ∷ 84 ∷ 85 ∷ 85 ∷ 85 ∷ 0 ∷ 1 ∷ 1 ∷ 1 ∷
    84 ∷ 85 ∷ 85 ∷ 85 ∷ 16 ∷ 17 ∷ 17 ∷ 17 ∷ 84 ∷ 85 ∷ 85 ∷ 85 ∷ 0 ∷ 0 ∷ 1 ∷ 0 ∷
    84 ∷ 85 ∷ 85 ∷ 85 ∷ 16 ∷ 17 ∷ 17 ∷ 17 ∷ 84 ∷ 85 ∷ 85 ∷ 85 ∷ 0 ∷ 1 ∷ 1 ∷ 1 ∷
    84 ∷ 85 ∷ 85 ∷ 85 ∷ 16 ∷ 17 ∷ 17 ∷ 17 ∷ 84 ∷ 85 ∷ 85 ∷ 85 ∷ 0 ∷ 0 ∷ 0 ∷ 0 ∷
    []
bottom_left_table BLOCK_4X8 =
    16 ∷ 17 ∷ 17 ∷ 17 ∷ 0 ∷ 1 ∷ 1 ∷ 1 ∷ 16 ∷ 17 ∷ 17 ∷ 17 ∷ 0 ∷ 0 ∷ 1 ∷ 0 ∷
    16 ∷ 17 ∷ 17 ∷ 17 ∷ 0 ∷ 1 ∷ 1 ∷ 1 ∷ 16 ∷ 17 ∷ 17 ∷ 17 ∷ 0 ∷ 0 ∷ 0 ∷ 0 ∷
    16 ∷ 17 ∷ 17 ∷ 17 ∷ 0 ∷ 1 ∷ 1 ∷ 1 ∷ 16 ∷ 17 ∷ 17 ∷ 17 ∷ 0 ∷ 0 ∷ 1 ∷ 0 ∷
    16 ∷ 17 ∷ 17 ∷ 17 ∷ 0 ∷ 1 ∷ 1 ∷ 1 ∷ 16 ∷ 17 ∷ 17 ∷ 17 ∷ 0 ∷ 0 ∷ 0 ∷ 0 ∷
    []
bottom_left_table BLOCK_8X4 =
    254 ∷ 255 ∷ 84 ∷ 85 ∷ 254 ∷ 255 ∷ 16 ∷ 17 ∷ 254 ∷ 255 ∷ 84 ∷ 85 ∷ 254 ∷ 255 ∷ 0 ∷ 1 ∷
    254 ∷ 255 ∷ 84 ∷ 85 ∷ 254 ∷ 255 ∷ 16 ∷ 17 ∷ 254 ∷ 255 ∷ 84 ∷ 85 ∷ 254 ∷ 255 ∷ 0 ∷ 0 ∷
    254 ∷ 255 ∷ 84 ∷ 85 ∷ 254 ∷ 255 ∷ 16 ∷ 17 ∷ 254 ∷ 255 ∷ 84 ∷ 85 ∷ 254 ∷ 255 ∷ 0 ∷ 1 ∷
    254 ∷ 255 ∷ 84 ∷ 85 ∷ 254 ∷ 255 ∷ 16 ∷ 17 ∷ 254 ∷ 255 ∷ 84 ∷ 85 ∷ 254 ∷ 255 ∷ 0 ∷ 0 ∷
    []
bottom_left_table BLOCK_8X8 =
    84 ∷ 85 ∷ 16 ∷ 17 ∷ 84 ∷ 85 ∷ 0 ∷ 1 ∷ 84 ∷ 85 ∷ 16 ∷ 17 ∷ 84 ∷ 85 ∷ 0 ∷ 0 ∷
    84 ∷ 85 ∷ 16 ∷ 17 ∷ 84 ∷ 85 ∷ 0 ∷ 1 ∷ 84 ∷ 85 ∷ 16 ∷ 17 ∷ 84 ∷ 85 ∷ 0 ∷ 0 ∷
    []
bottom_left_table BLOCK_8X16 = 16 ∷ 17 ∷ 0 ∷ 1 ∷ 16 ∷ 17 ∷ 0 ∷ 0 ∷ 16 ∷ 17 ∷ 0 ∷ 1 ∷ 16 ∷ 17 ∷ 0 ∷ 0 ∷ []
bottom_left_table BLOCK_16X8 = 254 ∷ 84 ∷ 254 ∷ 16 ∷ 254 ∷ 84 ∷ 254 ∷ 0 ∷ 254 ∷ 84 ∷ 254 ∷ 16 ∷ 254 ∷ 84 ∷ 254 ∷ 0 ∷ []
bottom_left_table BLOCK_16X16 = 84 ∷ 16 ∷ 84 ∷ 0 ∷ 84 ∷ 16 ∷ 84 ∷ 0 ∷ []
bottom_left_table BLOCK_16X32 = 16 ∷ 0 ∷ 16 ∷ 0 ∷ []
bottom_left_table BLOCK_32X16 = 78 ∷ 14 ∷ 78 ∷ 14 ∷ []
bottom_left_table BLOCK_32X32 = 4 ∷ 4 ∷ []
bottom_left_table BLOCK_32X64 = 0 ∷ []
bottom_left_table BLOCK_64X32 = 34 ∷ []
bottom_left_table BLOCK_64X64 = 0 ∷ []
bottom_left_table BLOCK_64X128 = 0 ∷ []
bottom_left_table BLOCK_128X64 = 0 ∷ []
bottom_left_table BLOCK_128X128 = 0 ∷ []
bottom_left_table BLOCK_4X16 =
    0 ∷ 1 ∷ 1 ∷ 1 ∷ 0 ∷ 0 ∷ 1 ∷ 0 ∷ 0 ∷ 1 ∷ 1 ∷ 1 ∷ 0 ∷ 0 ∷ 0 ∷ 0 ∷
    0 ∷ 1 ∷ 1 ∷ 1 ∷ 0 ∷ 0 ∷ 1 ∷ 0 ∷ 0 ∷ 1 ∷ 1 ∷ 1 ∷ 0 ∷ 0 ∷ 0 ∷ 0 ∷
    []
bottom_left_table BLOCK_16X4 =
    254 ∷ 254 ∷ 254 ∷ 84 ∷ 254 ∷ 254 ∷ 254 ∷ 16 ∷ 254 ∷ 254 ∷ 254 ∷ 84 ∷ 254 ∷ 254 ∷ 254 ∷ 0 ∷
    254 ∷ 254 ∷ 254 ∷ 84 ∷ 254 ∷ 254 ∷ 254 ∷ 16 ∷ 254 ∷ 254 ∷ 254 ∷ 84 ∷ 254 ∷ 254 ∷ 254 ∷ 0 ∷
    []
bottom_left_table BLOCK_8X32 = 0 ∷ 1 ∷ 0 ∷ 0 ∷ 0 ∷ 1 ∷ 0 ∷ 0 ∷ []
bottom_left_table BLOCK_32X8 = 238 ∷ 78 ∷ 238 ∷ 14 ∷ 238 ∷ 78 ∷ 238 ∷ 14 ∷ []
bottom_left_table BLOCK_16X64 = 0 ∷ 0 ∷ []
bottom_left_table BLOCK_64X16 = 42 ∷ 42 ∷ []
