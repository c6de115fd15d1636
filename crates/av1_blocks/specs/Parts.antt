-- The parts into which a partition cuts a block.
use Rattle.std.specs.Prelude.{◌≡◌, ℕ, ◌*◌, List, [], ◌∷◌, Result, Ok, Err}
use Rattle.av1_blocks.specs.declared.partition.BlockSize.{BlockSize}
use Rattle.av1_blocks.specs.declared.partition.BlockSize.TheVariants.{BLOCK_4X4, BLOCK_4X8, BLOCK_8X4, BLOCK_8X8}
use Rattle.av1_blocks.specs.declared.partition.BlockSize.TheVariants.{BLOCK_8X16, BLOCK_16X8, BLOCK_16X16, BLOCK_16X32}
use Rattle.av1_blocks.specs.declared.partition.BlockSize.TheVariants.{BLOCK_32X16, BLOCK_32X32, BLOCK_32X64}
use Rattle.av1_blocks.specs.declared.partition.BlockSize.TheVariants.{BLOCK_64X32, BLOCK_64X64, BLOCK_64X128}
use Rattle.av1_blocks.specs.declared.partition.BlockSize.TheVariants.{BLOCK_128X64, BLOCK_128X128, BLOCK_4X16}
use Rattle.av1_blocks.specs.declared.partition.BlockSize.TheVariants.{BLOCK_16X4, BLOCK_8X32, BLOCK_32X8, BLOCK_16X64}
use Rattle.av1_blocks.specs.declared.partition.BlockSize.TheVariants.{BLOCK_64X16}
use Rattle.av1_blocks.specs.declared.partition.InvalidBlockSize.{InvalidBlockSize}
use Rattle.av1_blocks.specs.declared.partition.PartitionType.{PartitionType}
use Rattle.av1_blocks.specs.declared.partition.PartitionType.TheVariants.{PARTITION_NONE, PARTITION_HORZ}
use Rattle.av1_blocks.specs.declared.partition.PartitionType.TheVariants.{PARTITION_VERT, PARTITION_SPLIT}
use Rattle.av1_blocks.specs.declared.partition.PartitionType.TheVariants.{PARTITION_HORZ_A, PARTITION_HORZ_B}
use Rattle.av1_blocks.specs.declared.partition.PartitionType.TheVariants.{PARTITION_VERT_A, PARTITION_VERT_B}
use Rattle.av1_blocks.specs.declared.partition.PartitionType.TheVariants.{PARTITION_HORZ_4, PARTITION_VERT_4}
use Rattle.av1_blocks.specs.declared.partition.PartitionType.TheVariants.{PARTITION_INVALID}
use Rattle.av1_blocks.specs.Blocks.{block_width, block_height}

-- A quarter of a square, which has half its sides.
abbrev pub quarter_of : BlockSize → Result BlockSize InvalidBlockSize
quarter_of BLOCK_8X8 = Ok BLOCK_4X4
quarter_of BLOCK_16X16 = Ok BLOCK_8X8
quarter_of BLOCK_32X32 = Ok BLOCK_16X16
quarter_of BLOCK_64X64 = Ok BLOCK_32X32
quarter_of BLOCK_128X128 = Ok BLOCK_64X64
quarter_of _ = Err (record {})

-- The upper half of a square.
abbrev pub upper_half : BlockSize → Result BlockSize InvalidBlockSize
upper_half BLOCK_8X8 = Ok BLOCK_8X4
upper_half BLOCK_16X16 = Ok BLOCK_16X8
upper_half BLOCK_32X32 = Ok BLOCK_32X16
upper_half BLOCK_64X64 = Ok BLOCK_64X32
upper_half BLOCK_128X128 = Ok BLOCK_128X64
upper_half _ = Err (record {})

-- The left half of a square.
abbrev pub left_half : BlockSize → Result BlockSize InvalidBlockSize
left_half BLOCK_8X8 = Ok BLOCK_4X8
left_half BLOCK_16X16 = Ok BLOCK_8X16
left_half BLOCK_32X32 = Ok BLOCK_16X32
left_half BLOCK_64X64 = Ok BLOCK_32X64
left_half BLOCK_128X128 = Ok BLOCK_64X128
left_half _ = Err (record {})

-- The uppermost of four stripes of a square.
abbrev pub top_stripe : BlockSize → Result BlockSize InvalidBlockSize
top_stripe BLOCK_16X16 = Ok BLOCK_16X4
top_stripe BLOCK_32X32 = Ok BLOCK_32X8
top_stripe BLOCK_64X64 = Ok BLOCK_64X16
top_stripe _ = Err (record {})

-- The leftmost of four stripes of a square.
abbrev pub left_stripe : BlockSize → Result BlockSize InvalidBlockSize
left_stripe BLOCK_16X16 = Ok BLOCK_4X16
left_stripe BLOCK_32X32 = Ok BLOCK_8X32
left_stripe BLOCK_64X64 = Ok BLOCK_16X64
left_stripe _ = Err (record {})

-- The size of a partition's parts; if A or B cuts one half once more, the size of the halves.
abbrev pub subsize : BlockSize → PartitionType → Result BlockSize InvalidBlockSize
subsize b PARTITION_NONE = Ok b
subsize b PARTITION_HORZ = upper_half b
subsize b PARTITION_VERT = left_half b
subsize b PARTITION_SPLIT = quarter_of b
subsize b PARTITION_HORZ_A = upper_half b
subsize b PARTITION_HORZ_B = upper_half b
subsize b PARTITION_VERT_A = left_half b
subsize b PARTITION_VERT_B = left_half b
subsize b PARTITION_HORZ_4 = top_stripe b
subsize b PARTITION_VERT_4 = left_stripe b
subsize b PARTITION_INVALID = Err (record {})

-- The number of parts side by side.
abbrev pub parts_across : PartitionType → ℕ
parts_across PARTITION_VERT = 2
parts_across PARTITION_SPLIT = 2
parts_across PARTITION_VERT_A = 2
parts_across PARTITION_VERT_B = 2
parts_across PARTITION_VERT_4 = 4
parts_across _ = 1

-- The number of parts above one another.
abbrev pub parts_down : PartitionType → ℕ
parts_down PARTITION_HORZ = 2
parts_down PARTITION_SPLIT = 2
parts_down PARTITION_HORZ_A = 2
parts_down PARTITION_HORZ_B = 2
parts_down PARTITION_HORZ_4 = 4
parts_down _ = 1

-- Copies of the part, as many as the partition has side by side and above one another, cover exactly the block.
pub record Tiles (block : BlockSize) (partition : PartitionType) (part : BlockSize) : Type 0 where
  pub across : block_width part * parts_across partition ≡ block_width block
  pub down : block_height part * parts_down partition ≡ block_height block

-- The partitions that rav1e chooses from.
abbrev pub chosen_partitions : List PartitionType
chosen_partitions = PARTITION_NONE ∷ PARTITION_HORZ ∷ PARTITION_VERT ∷ PARTITION_SPLIT ∷ []
