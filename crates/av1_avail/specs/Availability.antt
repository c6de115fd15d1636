-- The answers of rav1e's tables. Blocks of one size lie in rows and columns in a superblock of 16x16 cells (64x64
-- samples).
use Rattle.std.specs.Prelude.{ℕ, Bool, ◌+◌, ◌*◌, ◌/◌, ◌%◌, ◌^◌, min, max, ◌==◌, nat_lt, ◌&&◌, ◌||◌, if◌then◌else◌}
use Rattle.av1_blocks.specs.declared.partition.BlockSize.{BlockSize}
use Rattle.av1_avail.specs.Cells.{block_columns, block_rows}
use Rattle.av1_avail.specs.Tables.{block_bit, top_right_table, bottom_left_table}

-- The samples above right of a transform are coded before it. The block holds the tile's cell at column x and row y.
-- The transform is tw units wide and begins row_off units below and col_off units right of the block's first unit. The
-- plane has half of luma's columns if ss_x is 1.
--
-- Below the block's first row, they are exactly if the transform ends inside the block; in a block 128 samples wide,
-- inside its half. In the first row, they are if the transform ends inside the block, or if the block is in the
-- superblock's first row. Otherwise the table says it, but never in the superblock's last column.
unfoldable pub table_top_right : BlockSize → (x y tw row_off col_off ss_x : ℕ) → Bool
table_top_right b x y tw row_off col_off ss_x =
    let columns = block_columns b in
    let half = 16 / 2 ^ ss_x in
    let ends_inside = nat_lt (col_off + tw) (max 1 (columns / 2 ^ ss_x)) in
    let row = y % 16 / block_rows b in
    let column = x % 16 / columns in
    if nat_lt 0 row_off
    then (if nat_lt 16 columns then nat_lt (col_off % half + tw) half else ends_inside)
    else (ends_inside || row == 0 || nat_lt ((column + 1) * columns) 16 && block_bit (top_right_table b) b row column)

-- The samples below left of a transform that is th units high are coded before it. The plane has half of luma's rows if
-- ss_y is 1.
--
-- Right of the block's first column they never are, except in a block 128 samples wide at the left end of its second
-- half: there exactly if the transform ends above the end of the half to its left. In the first column they are if the
-- transform ends inside the block. If the block is in the superblock's first column, they also are if the transform
-- ends inside the superblock. Otherwise the table says it, but never in the superblock's last row.
unfoldable pub table_bottom_left : BlockSize → (x y th row_off col_off ss_x ss_y : ℕ) → Bool
table_bottom_left b x y th row_off col_off ss_x ss_y =
    let columns = block_columns b in
    let rows = block_rows b in
    let row = y % 16 / rows in
    let column = x % 16 / columns in
    let by_place =
    if column == 0 then nat_lt (row * rows / 2 ^ ss_y + row_off + th) (16 / 2 ^ ss_y)
    else (nat_lt ((row + 1) * rows) 16 && block_bit (bottom_left_table b) b row column)
    in
    if nat_lt 0 col_off
    then (nat_lt 16 columns && col_off % (16 / 2 ^ ss_x) == 0 && nat_lt (row_off % (16 / 2 ^ ss_y) + th)
    (min rows 16 / 2 ^ ss_y))
    else (nat_lt (row_off + th) (max 1 (rows / 2 ^ ss_y)) || by_place)
