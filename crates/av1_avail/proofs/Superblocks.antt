-- Places that move by whole superblocks: the order of what lies round a block does not change.
use Rattle.std.proofs.Common.{◌≡◌, ℕ, ◌+◌, ◌-◌, ◌*◌, ◌/◌, ◌%◌, ◌^◌, ◌≤◌, ◌<◌, max, arith, add_assoc}
use Rattle.av1_blocks.specs.declared.partition.BlockSize.{BlockSize}
use Rattle.av1_blocks.specs.declared.partition.BlockSize.TheVariants.{BLOCK_4X4}
use Rattle.av1_blocks.specs.declared.transform.TxSize.{TxSize}
use Rattle.av1_avail.specs.Cells.{block_columns, block_rows, transform_columns, transform_rows, corner}
use Rattle.av1_avail.specs.Order.{is_before_in_block, next_before}
use Rattle.av1_avail.specs.Agreement.{IsSmall, square_corner, top_right_before, bottom_left_before}
use Rattle.av1_avail.proofs.Halved.{units, to_units, to_cells, corner_far}
use Rattle.av1_avail.proofs.Shift.{compare-shift, suc-inside, is_earlier-shift, is_in-shift}

pub is_before_in_block-shift : (k m bx by w h th r c x y : ℕ)
    → is_before_in_block (k + bx) (m + by) w h th r c (k + x) (m + y) ≡ is_before_in_block bx by w h th r c x y
unfolding is_before_in_block
is_before_in_block-shift k m bx by w h th r c x y = simp (add_assoc, suc-inside, compare-shift)

pub square_corner-shift : (b : BlockSize) → IsSmall b → (k x : ℕ)
    → square_corner (max (block_columns b) (block_rows b)) (16 * k + x) ≡ 16 * k + square_corner (max (block_columns b) (block_rows b)) x
square_corner-shift = elim [ BLOCK_4X4 ↦ λ small k x. omega arith | _ ↦ λ small k x. omega arith ]

-- where the block of this side that holds the tile's cell c begins, in its superblock
abbrev pub start : (side c : ℕ) → ℕ
start side c = c % 16 - c % 16 % side

-- The block begins at a multiple of its sides in the superblock, and holds the cells of one quotient.
pub column_start : (b : BlockSize) (x : ℕ)
    → (start (block_columns b) x < 16) × (start (block_columns b) x % block_columns b ≡ 0)
    × (start (block_columns b) x % 16 / block_columns b ≡ x % 16 / block_columns b)
column_start = elim [ BLOCK_4X4 ↦ λ x. (omega arith, omega arith, omega arith) | _ ↦ λ x. (omega arith, omega arith, omega arith) ]

pub row_start : (b : BlockSize) (y : ℕ)
    → (start (block_rows b) y < 16) × (start (block_rows b) y % block_rows b ≡ 0)
    × (start (block_rows b) y % 16 / block_rows b ≡ y % 16 / block_rows b)
row_start = elim [ BLOCK_4X4 ↦ λ y. (omega arith, omega arith, omega arith) | _ ↦ λ y. (omega arith, omega arith, omega arith) ]

column-shift : (b : BlockSize) → IsSmall b → (x : ℕ) → 16 * (x / 16) + corner (block_columns b) (start (block_columns b) x) ≡ corner (block_columns b) x
column-shift = elim [ BLOCK_4X4 ↦ λ small x. omega arith | _ ↦ λ small x. omega arith ]

row-shift : (b : BlockSize) → IsSmall b → (y : ℕ) → 16 * (y / 16) + corner (block_rows b) (start (block_rows b) y) ≡ corner (block_rows b) y
row-shift = elim [ BLOCK_4X4 ↦ λ small y. omega arith | _ ↦ λ small y. omega arith ]

-- the same from the cell itself, as it lies in its superblock
pub column-within : (b : BlockSize) → IsSmall b → (x : ℕ) → 16 * (x / 16) + corner (block_columns b) (x % 16) ≡ corner (block_columns b) x
column-within = elim [ BLOCK_4X4 ↦ λ small x. omega arith | _ ↦ λ small x. omega arith ]

pub row-within : (b : BlockSize) → IsSmall b → (y : ℕ) → 16 * (y / 16) + corner (block_rows b) (y % 16) ≡ corner (block_rows b) y
row-within = elim [ BLOCK_4X4 ↦ λ small y. omega arith | _ ↦ λ small y. omega arith ]

module _ (b : BlockSize) (small : IsSmall b) (t : TxSize) (r c sx sy i : ℕ) (hx : sx ≤ 1) (hy : sy ≤ 1) where
  next_before-shift : (k m bx by x y : ℕ)
      → next_before (16 * k + bx) (16 * m + by) (block_columns b) (block_rows b) sx sy (transform_rows t) r c (units sx * k + x) (units sy * m + y)
      ≡ next_before bx by (block_columns b) (block_rows b) sx sy (transform_rows t) r c x y
  unfolding next_before
  next_before-shift k m bx by x y =
      simp (
        to_cells sx k x hx,
        to_cells sy m y hy,
        to_units sx k bx hx,
        to_units sy m by hy,
        square_corner-shift b small,
        is_in-shift,
        is_before_in_block-shift,
        is_earlier-shift,
      )

  unit_column : (x : ℕ) → corner (block_columns b) x / 2 ^ sx ≡ units sx * (x / 16) + corner (block_columns b) (start (block_columns b) x) / 2 ^ sx
  unit_column x = rw (column-shift b small x) at (to_units sx (x / 16) (corner (block_columns b) (start (block_columns b) x)) hx)

  unit_row : (y : ℕ) → corner (block_rows b) y / 2 ^ sy ≡ units sy * (y / 16) + corner (block_rows b) (start (block_rows b) y) / 2 ^ sy
  unit_row y = rw (row-shift b small y) at (to_units sy (y / 16) (corner (block_rows b) (start (block_rows b) y)) hy)

  pub top_right_before-start : (x y : ℕ)
      → top_right_before b x y t r c sx sy i ≡ top_right_before b (start (block_columns b) x) (start (block_rows b) y) t r c sx sy i
  unfolding top_right_before
  top_right_before-start x y =
      let bx = corner (block_columns b) (start (block_columns b) x) in
      let by = corner (block_rows b) (start (block_rows b) y) in
      let u = bx / 2 ^ sx + c + transform_columns t + i in
      let v = by / 2 ^ sy + r - 1 in
      let at_u : units sx * (x / 16) + u ≡ corner (block_columns b) x / 2 ^ sx + c + transform_columns t + i = omega (arith, unit_column x) in
      let at_v : units sy * (y / 16) + v ≡ corner (block_rows b) y / 2 ^ sy + r - 1 =
      omega (arith, unit_row y, corner_far sy (start (block_rows b) y - start (block_rows b) y % block_rows b) hy)
      in
      rw (column-shift b small x, row-shift b small y, at_u, at_v) at (next_before-shift (x / 16) (y / 16) bx by u v)

  pub bottom_left_before-start : (x y : ℕ)
      → bottom_left_before b x y t r c sx sy i ≡ bottom_left_before b (start (block_columns b) x) (start (block_rows b) y) t r c sx sy i
  unfolding bottom_left_before
  bottom_left_before-start x y =
      let bx = corner (block_columns b) (start (block_columns b) x) in
      let by = corner (block_rows b) (start (block_rows b) y) in
      let u = bx / 2 ^ sx + c - 1 in
      let v = by / 2 ^ sy + r + transform_rows t + i in
      let at_u : units sx * (x / 16) + u ≡ corner (block_columns b) x / 2 ^ sx + c - 1 =
      omega (arith, unit_column x, corner_far sx (start (block_columns b) x - start (block_columns b) x % block_columns b) hx)
      in
      let at_v : units sy * (y / 16) + v ≡ corner (block_rows b) y / 2 ^ sy + r + transform_rows t + i = omega (arith, unit_row y) in
      rw (column-shift b small x, row-shift b small y, at_u, at_v) at (next_before-shift (x / 16) (y / 16) bx by u v)
