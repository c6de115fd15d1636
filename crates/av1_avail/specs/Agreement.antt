-- How the tables agree with coding order. (AV1 specification: transform block syntax, which finds haveAboveRt and
-- haveBelowLft from the flags of what is decoded.)
use Rattle.std.specs.Prelude.{◌≡◌, ◌<◌, ◌≤◌, ℕ, Bool, ◌+◌, ◌-◌, ◌*◌, ◌/◌, ◌%◌, ◌^◌, min, max}
use Rattle.av1_blocks.specs.declared.partition.BlockSize.{BlockSize}
use Rattle.av1_blocks.specs.declared.transform.TxSize.{TxSize}
use Rattle.av1_blocks.specs.Blocks.{block_width, block_height}
use Rattle.av1_blocks.specs.Transforms.{tx_width, tx_height}
use Rattle.av1_avail.specs.Availability.{table_top_right, table_bottom_left}
use Rattle.av1_avail.specs.Cells.{block_columns, block_rows, transform_columns, transform_rows, corner}
use Rattle.av1_avail.specs.Order.{is_earlier, next_before}

-- No side of the block is longer than a superblock's, 64 samples.
abbrev pub IsSmall : BlockSize → Type 0
IsSmall b = max (block_width b) (block_height b) ≤ 64

-- The block's sides in a halved direction are 8 samples or more; equal transforms of the size tile its samples in the
-- plane; and one of them begins row_off units below and col_off units right of the block's first unit.
pub record IsTile (b : BlockSize) (t : TxSize) (row_off col_off ss_x ss_y : ℕ) : Type 0 where
  pub small : IsSmall b
  pub halved_x : ss_x ≤ 1
  pub halved_y : ss_y ≤ 1
  pub whole_columns : 2 ^ ss_x ≤ block_columns b
  pub whole_rows : 2 ^ ss_y ≤ block_rows b
  pub across : block_columns b / 2 ^ ss_x % transform_columns t ≡ 0
  pub along : block_rows b / 2 ^ ss_y % transform_rows t ≡ 0
  pub row_within : row_off < block_rows b / 2 ^ ss_y
  pub row_at : row_off % transform_rows t ≡ 0
  pub column_within : col_off < block_columns b / 2 ^ ss_x
  pub column_at : col_off % transform_columns t ≡ 0

-- The number of units past a transform that may be needed: its lesser side.
abbrev pub run_length : TxSize → ℕ
run_length t = min (transform_columns t) (transform_rows t)

-- The i-th unit, from the right end of the transform on, of the row above it is coded before it. The block holds the
-- tile's cell at x and y.
unfoldable pub top_right_before : BlockSize → (x y : ℕ) → TxSize → (row_off col_off ss_x ss_y i : ℕ) → Bool
top_right_before b x y t row_off col_off ss_x ss_y i =
    let bx = corner (block_columns b) x in
    let by = corner (block_rows b) y in
    next_before bx by (block_columns b) (block_rows b) ss_x ss_y (transform_rows t) row_off col_off
    (bx / 2 ^ ss_x + col_off + transform_columns t + i) (by / 2 ^ ss_y + row_off - 1)

-- The i-th unit, from the lower end of the transform on, of the column left of it is coded before it.
unfoldable pub bottom_left_before : BlockSize → (x y : ℕ) → TxSize → (row_off col_off ss_x ss_y i : ℕ) → Bool
bottom_left_before b x y t row_off col_off ss_x ss_y i =
    let bx = corner (block_columns b) x in
    let by = corner (block_rows b) y in
    next_before bx by (block_columns b) (block_rows b) ss_x ss_y (transform_rows t) row_off col_off
    (bx / 2 ^ ss_x + col_off - 1) (by / 2 ^ ss_y + row_off + transform_rows t + i)

-- For each unit of the runs past a transform, the tables say what coding order says.
pub record TablesAnswerOrder (b : BlockSize) (t : TxSize) (x y row_off col_off ss_x ss_y : ℕ) : Type 0 where
  pub top_right : (i : ℕ) → i < run_length t
      → table_top_right b x y (transform_columns t) row_off col_off ss_x ≡
      top_right_before b x y t row_off col_off ss_x ss_y i
  pub bottom_left : (i : ℕ) → i < run_length t
      → table_bottom_left b x y (transform_rows t) row_off col_off ss_x ss_y ≡
      bottom_left_before b x y t row_off col_off ss_x ss_y i

-- This holds for every transform that tiles a block with sides up to 64.
abbrev pub TablesFollowOrder : Type 0
TablesFollowOrder =
    (b : BlockSize) (t : TxSize) (x y row_off col_off ss_x ss_y : ℕ) → IsTile b t row_off col_off ss_x ss_y →
    TablesAnswerOrder b t x y row_off col_off ss_x ss_y

-- No side of the block is longer than 64 samples, and none more than twice the other.
pub record IsNearSquare (b : BlockSize) : Type 0 where
  pub small : IsSmall b
  pub wide : block_width b ≤ 2 * block_height b
  pub high : block_height b ≤ 2 * block_width b

-- The corner, along one side, of the aligned square of side s that holds the cell c.
abbrev pub square_corner : (s c : ℕ) → ℕ
square_corner s c = c - c % s

-- The cell right of the block and one row above it is coded before the aligned square of the block's greater side that
-- holds the block, which itself holds the tile's cell at x and y.
unfoldable pub top_right_earlier : BlockSize → (x y : ℕ) → Bool
top_right_earlier b x y =
    let bx = corner (block_columns b) x in
    let by = corner (block_rows b) y in
    let s = max (block_columns b) (block_rows b) in
    is_earlier (bx + block_columns b) (by - 1) (square_corner s bx) (square_corner s by)

-- The cell left of the block and one row below it is coded before this square.
unfoldable pub bottom_left_earlier : BlockSize → (x y : ℕ) → Bool
bottom_left_earlier b x y =
    let bx = corner (block_columns b) x in
    let by = corner (block_rows b) y in
    let s = max (block_columns b) (block_rows b) in
    is_earlier (bx - 1) (by + block_rows b) (square_corner s bx) (square_corner s by)

-- The transform is the whole block, in a plane that is not halved.
pub record IsWhole (b : BlockSize) (t : TxSize) (row_off col_off ss_x ss_y : ℕ) : Type 0 where
  pub columns : tx_width t ≡ block_width b
  pub rows : tx_height t ≡ block_height b
  pub row_at : row_off ≡ 0
  pub column_at : col_off ≡ 0
  pub plain_x : ss_x ≡ 0
  pub plain_y : ss_y ≡ 0
