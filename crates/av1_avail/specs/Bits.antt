-- rav1e's answers from the bits of a block's position, without a table. Columns and rows are counted in cells.
use Rattle.std.specs.Prelude.{ℕ, zero, suc, not, ◌-◌, Bool, true, false, ◌/◌, ◌%◌, ◌^◌, max, ◌==◌, nat_lt, ◌&&◌, ◌||◌}
use Rattle.std.specs.Prelude.{if◌then◌else◌}
use Rattle.av1_blocks.specs.declared.partition.BlockSize.{BlockSize}
use Rattle.av1_blocks.specs.Blocks.{block_width, block_height, side_log2}

-- Bit k of n is set.
abbrev pub bit : (n k : ℕ) → Bool
bit n k = n / 2 ^ k % 2 == 1

-- Up the quadtree of a superblock, through its last n sizes of nodes from the smallest on: bit k of a column x says
-- which half of a node of 2^(k+1) cells it lies in, and so does bit k of a row y. A quarter that is upper right asks
-- the same of the node around it, one that is lower right says yes, one on the left no, and so does what lies past the
-- superblock: +-------+-------+ | no | up | +-------+-------+ | no | yes | +-------+-------+
abbrev pub reaches_lower_right : (n x y : ℕ) → Bool
reaches_lower_right zero x y = false
reaches_lower_right (suc n) x y = bit x (3 - n) && (bit y (3 - n) || reaches_lower_right n x y)

-- The logarithm to base 2 of the width in cells.
abbrev pub columns_log : BlockSize → ℕ
columns_log b = side_log2 (block_width b) - 2

-- The logarithm to base 2 of the height in cells.
abbrev pub rows_log : BlockSize → ℕ
rows_log b = side_log2 (block_height b) - 2

-- The logarithm to base 2 of the greater side in cells.
abbrev pub side_log : BlockSize → ℕ
side_log b = max (columns_log b) (rows_log b)

-- The answer above right of the block at column x and row y: false for a block with a side of 128, and for the lower of
-- two blocks that are wider than high. It is true for the left of two that are higher than wide. Otherwise it is false
-- exactly if the way up from the block, through upper right quarters, reaches a lower right one: the cells right of
-- that come later.
unfoldable pub bits_top_right : BlockSize → (x y : ℕ) → Bool
bits_top_right b x y =
    if nat_lt 4 (side_log b) || nat_lt (rows_log b) (columns_log b) && bit y (rows_log b) then false
    else (if nat_lt (columns_log b) (rows_log b) && not (bit x (columns_log b)) then true
    else not (reaches_lower_right (4 - side_log b) x y))

-- The answer below left: false for a block with a side of 128. It is true for the upper of two blocks that are wider
-- than high, and false for the right of two that are higher than wide. Otherwise it is true exactly if the way up from
-- the block, through lower left quarters, reaches an upper left one (the same test from the superblock's last cell):
-- the cells left of that came earlier.
unfoldable pub bits_bottom_left : BlockSize → (x y : ℕ) → Bool
bits_bottom_left b x y =
    if nat_lt 4 (side_log b) then false
    else
    (if nat_lt (rows_log b) (columns_log b) && not (bit y (rows_log b)) then true
    else
    (if nat_lt (columns_log b) (rows_log b) && bit x (columns_log b) then false
    else reaches_lower_right (4 - side_log b) (15 - x % 16) (15 - y % 16)))
