-- The sides of blocks in luma samples, and what follows from them.
use Rattle.std.specs.Prelude.{◌≡◌, ◌<◌, ◌≤◌, ℕ, ◌==◌, nat_lt, nat_le, ◌&&◌, not, max, Bool, List, codes, if◌then◌else◌}
use Rattle.std.specs.Prelude.{Option, Some, None}
use Rattle.std.specs.Ordering.{nat_cmp}
use Rattle.std.specs.declared.cmp.Ordering.{Ordering}
use Rattle.std.specs.declared.cmp.Ordering.TheVariants.{Less, Equal, Greater}
use Rattle.av1_blocks.specs.declared.partition.BlockSize.{BlockSize}
use Rattle.av1_blocks.specs.declared.partition.BlockSize.TheVariants.{BLOCK_4X4, BLOCK_4X8, BLOCK_8X4, BLOCK_8X8}
use Rattle.av1_blocks.specs.declared.partition.BlockSize.TheVariants.{BLOCK_8X16, BLOCK_16X8, BLOCK_16X16, BLOCK_16X32}
use Rattle.av1_blocks.specs.declared.partition.BlockSize.TheVariants.{BLOCK_32X16, BLOCK_32X32, BLOCK_32X64}
use Rattle.av1_blocks.specs.declared.partition.BlockSize.TheVariants.{BLOCK_64X32, BLOCK_64X64, BLOCK_64X128}
use Rattle.av1_blocks.specs.declared.partition.BlockSize.TheVariants.{BLOCK_128X64, BLOCK_128X128, BLOCK_4X16}
use Rattle.av1_blocks.specs.declared.partition.BlockSize.TheVariants.{BLOCK_16X4, BLOCK_8X32, BLOCK_32X8, BLOCK_16X64}
use Rattle.av1_blocks.specs.declared.partition.BlockSize.TheVariants.{BLOCK_64X16}

-- The number of a size.
abbrev pub block_number : BlockSize → ℕ
block_number BLOCK_4X4 = 0
block_number BLOCK_4X8 = 1
block_number BLOCK_8X4 = 2
block_number BLOCK_8X8 = 3
block_number BLOCK_8X16 = 4
block_number BLOCK_16X8 = 5
block_number BLOCK_16X16 = 6
block_number BLOCK_16X32 = 7
block_number BLOCK_32X16 = 8
block_number BLOCK_32X32 = 9
block_number BLOCK_32X64 = 10
block_number BLOCK_64X32 = 11
block_number BLOCK_64X64 = 12
block_number BLOCK_64X128 = 13
block_number BLOCK_128X64 = 14
block_number BLOCK_128X128 = 15
block_number BLOCK_4X16 = 16
block_number BLOCK_16X4 = 17
block_number BLOCK_8X32 = 18
block_number BLOCK_32X8 = 19
block_number BLOCK_16X64 = 20
block_number BLOCK_64X16 = 21

-- The width in samples.
abbrev pub block_width : BlockSize → ℕ
block_width BLOCK_4X4 = 4
block_width BLOCK_4X8 = 4
block_width BLOCK_8X4 = 8
block_width BLOCK_8X8 = 8
block_width BLOCK_8X16 = 8
block_width BLOCK_16X8 = 16
block_width BLOCK_16X16 = 16
block_width BLOCK_16X32 = 16
block_width BLOCK_32X16 = 32
block_width BLOCK_32X32 = 32
block_width BLOCK_32X64 = 32
block_width BLOCK_64X32 = 64
block_width BLOCK_64X64 = 64
block_width BLOCK_64X128 = 64
block_width BLOCK_128X64 = 128
block_width BLOCK_128X128 = 128
block_width BLOCK_4X16 = 4
block_width BLOCK_16X4 = 16
block_width BLOCK_8X32 = 8
block_width BLOCK_32X8 = 32
block_width BLOCK_16X64 = 16
block_width BLOCK_64X16 = 64

-- The height in samples.
abbrev pub block_height : BlockSize → ℕ
block_height BLOCK_4X4 = 4
block_height BLOCK_4X8 = 8
block_height BLOCK_8X4 = 4
block_height BLOCK_8X8 = 8
block_height BLOCK_8X16 = 16
block_height BLOCK_16X8 = 8
block_height BLOCK_16X16 = 16
block_height BLOCK_16X32 = 32
block_height BLOCK_32X16 = 16
block_height BLOCK_32X32 = 32
block_height BLOCK_32X64 = 64
block_height BLOCK_64X32 = 32
block_height BLOCK_64X64 = 64
block_height BLOCK_64X128 = 128
block_height BLOCK_128X64 = 64
block_height BLOCK_128X128 = 128
block_height BLOCK_4X16 = 16
block_height BLOCK_16X4 = 4
block_height BLOCK_8X32 = 32
block_height BLOCK_32X8 = 8
block_height BLOCK_16X64 = 64
block_height BLOCK_64X16 = 16

-- The logarithm to base 2 of a side of 4 to 128 samples.
abbrev pub side_log2 : ℕ → ℕ
side_log2 side =
    if side == 4 then 2
    else (if side == 8 then 3
    else (if side == 16 then 4 else (if side == 32 then 5 else (if side == 64 then 6 else 7))))

-- Some block has these sides.
abbrev pub HasBlockSides : (width height : ℕ) → Type 0
HasBlockSides width height = (b : BlockSize) × (block_width b ≡ width) × (block_height b ≡ height)

-- Both sides are equal.
abbrev pub is_square : BlockSize → Bool
is_square b = block_width b == block_height b

-- A transform may be a rectangle: the block isn't square, and no side is 128.
abbrev pub is_rect_tx_allowed : BlockSize → Bool
is_rect_tx_allowed b = not (is_square b) && nat_lt (max (block_width b) (block_height b)) 128

-- The order of two blocks whose widths and heights have this order: none if one side is greater and the other less.
abbrev pub both_sides : (width height : Ordering) → Option Ordering
both_sides Equal height = Some height
both_sides Less Less = Some Less
both_sides Less Equal = Some Less
both_sides Less Greater = None
both_sides Greater Less = None
both_sides Greater Equal = Some Greater
both_sides Greater Greater = Some Greater

-- The product order of the sides.
abbrev pub product_cmp : BlockSize → BlockSize → Option Ordering
product_cmp a b = both_sides (nat_cmp (block_width a) (block_width b)) (nat_cmp (block_height a) (block_height b))

-- No side of the first is greater.
pub record IsNoGreater (a b : BlockSize) : Type 0 where
  pub width : block_width a ≤ block_width b
  pub height : block_height a ≤ block_height b

-- The first block is wider and lower.
pub record IsWiderAndLower (a b : BlockSize) : Type 0 where
  pub width : block_width b < block_width a
  pub height : block_height a < block_height b

-- Whether chroma may be predicted from luma: no side is longer than 32 samples.
unfoldable pub cfl_allowed : BlockSize → Bool
cfl_allowed size = nat_le (block_width size) 32 && nat_le (block_height size) 32

-- The sides as a text, width first.
abbrev pub block_text : BlockSize → List ℕ
block_text BLOCK_4X4 = codes "4x4"
block_text BLOCK_4X8 = codes "4x8"
block_text BLOCK_8X4 = codes "8x4"
block_text BLOCK_8X8 = codes "8x8"
block_text BLOCK_8X16 = codes "8x16"
block_text BLOCK_16X8 = codes "16x8"
block_text BLOCK_16X16 = codes "16x16"
block_text BLOCK_16X32 = codes "16x32"
block_text BLOCK_32X16 = codes "32x16"
block_text BLOCK_32X32 = codes "32x32"
block_text BLOCK_32X64 = codes "32x64"
block_text BLOCK_64X32 = codes "64x32"
block_text BLOCK_64X64 = codes "64x64"
block_text BLOCK_64X128 = codes "64x128"
block_text BLOCK_128X64 = codes "128x64"
block_text BLOCK_128X128 = codes "128x128"
block_text BLOCK_4X16 = codes "4x16"
block_text BLOCK_16X4 = codes "16x4"
block_text BLOCK_8X32 = codes "8x32"
block_text BLOCK_32X8 = codes "32x8"
block_text BLOCK_16X64 = codes "16x64"
block_text BLOCK_64X16 = codes "64x16"
