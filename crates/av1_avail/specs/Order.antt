-- The order in which cells of 4x4 luma samples are coded, which depends only on their positions. Superblocks of 16x16
-- cells (64x64 samples) follow one another in raster order. In a superblock each aligned square is coded as a whole or
-- as its four quarters: upper left, upper right, lower left, lower right. (AV1 specification: decode tile syntax,
-- decode partition syntax, residual syntax.)
--
-- Cells are counted from one superblock left of and one above the tile's first cell, so that the cells just outside the
-- tile also have numbers.
use Rattle.std.specs.Prelude.{◌≡◌, ℕ, Bool, ◌+◌, ◌-◌, ◌*◌, ◌/◌, ◌%◌, ◌^◌, max, ◌==◌, nat_lt, nat_le, ◌&&◌, ◌||◌}
use Rattle.std.specs.Prelude.{if◌then◌else◌}

-- The position of the cell at column x and row y in the order of its superblock, if the superblock is cut into quarters
-- down to single cells: the low four bits of column and row, interleaved, the row's bit above the column's.
unfoldable pub interleaved : (x y : ℕ) → ℕ
interleaved x y =
    x % 2 + 2 * (y % 2) + 4 * (x / 2 % 2) + 8 * (y / 2 % 2) + 16 * (x / 4 % 2) + 32 * (y / 4 % 2) + 64 * (x / 8 % 2) +
    128 * (y / 8 % 2)

-- The cell at column x and row y, which lies outside the aligned square whose corner is the cell at nx and ny, is coded
-- before it.
unfoldable pub is_earlier : (x y nx ny : ℕ) → Bool
is_earlier x y nx ny =
    nat_lt (y / 16) (ny / 16) || y / 16 == ny / 16
    && (nat_lt (x / 16) (nx / 16) || x / 16 == nx / 16 && nat_lt (interleaved x y) (interleaved nx ny))

-- The position (x, y), of cells or of samples, lies in the rectangle of w by h with its corner at rx and ry.
unfoldable pub is_in : (x y rx ry w h : ℕ) → Bool
is_in x y rx ry w h = nat_le rx x && nat_lt x (rx + w) && nat_le ry y && nat_lt y (ry + h)

-- The block of w by h cells at bx and by is coded as equal transforms, in raster order. The cell is above the block's
-- first row, or left of its first column, or in one of its transforms, which are th cells high, before the one that
-- begins c cells right of and r below the block's corner.
unfoldable pub is_before_in_block : (bx by w h th r c x y : ℕ) → Bool
is_before_in_block bx by w h th r c x y =
    nat_lt y by || nat_lt x bx || nat_lt x (bx + w) && nat_lt y (by + h)
    && (nat_lt y (by + r) || nat_lt y (by + r + th) && nat_lt x (bx + c))

-- The cell is coded before that transform of that block, which lies in the aligned square of side s with its corner at
-- nx and ny.
unfoldable pub is_before : (s nx ny bx by w h th r c x y : ℕ) → Bool
is_before s nx ny bx by w h th r c x y =
    if is_in x y nx ny s s then is_before_in_block bx by w h th r c x y else is_earlier x y nx ny

-- The same in units of 4x4 samples of a plane, which has half of luma's columns if sx is 1 and half of its rows if sy
-- is 1. The unit at x and y is coded before that transform of the block of w by h cells at the cell bx and by. Outside
-- the aligned square of the block's greater side that holds the block, a unit is coded when its first cell is.
unfoldable pub next_before : (bx by w h sx sy th r c x y : ℕ) → Bool
next_before bx by w h sx sy th r c x y =
    let s = max w h in
    let nx = bx - bx % s in
    let ny = by - by % s in
    if is_in (x * 2 ^ sx) (y * 2 ^ sy) nx ny s s
    then is_before_in_block (bx / 2 ^ sx) (by / 2 ^ sy) (w / 2 ^ sx) (h / 2 ^ sy) th r c x y
    else is_earlier (x * 2 ^ sx) (y * 2 ^ sy) nx ny

-- The quarters of side s of the square at nx and ny are coded in turn: before each quarter, exactly the one before it
-- has been added to what was coded.
pub record AreInTurn (s nx ny : ℕ) : Type 0 where
  pub upper_right : (x y : ℕ) → is_earlier x y (nx + s) ny ≡ (is_earlier x y nx ny || is_in x y nx ny s s)
  pub lower_left : (x y : ℕ) → is_earlier x y nx (ny + s) ≡ (is_earlier x y (nx + s) ny || is_in x y (nx + s) ny s s)
  pub lower_right : (x y : ℕ) →
      is_earlier x y (nx + s) (ny + s) ≡ (is_earlier x y nx (ny + s) || is_in x y nx (ny + s) s s)
