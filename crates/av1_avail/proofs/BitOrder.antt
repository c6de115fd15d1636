-- The bit tests against coding order and against the tables: tests over all cells of a superblock, which compute, and moved to any place.
use Rattle.std.proofs.Common.{◌≡◌, ℕ, ◌+◌, ◌-◌, ◌*◌, ◌/◌, ◌%◌, max, Bool, true, false, ◌&&◌, leb, refl, sym, ◌∙◌, arith}
use Rattle.std.proofs.lemmas.Bool.{le-leb}
use Rattle.std.proofs.Math.Bool.{beq}
use Rattle.std.proofs.Math.Nat.{mod-mod}
use Rattle.std.specs.Cmp.{booleans_Decides}
use Rattle.av1_blocks.specs.declared.partition.BlockSize.{BlockSize}
use Rattle.av1_blocks.specs.declared.partition.BlockSize.TheVariants.{BLOCK_4X4, BLOCK_64X64, BLOCK_64X128, BLOCK_128X64, BLOCK_128X128}
use Rattle.av1_blocks.specs.declared.transform.TxSize.{TxSize}
use Rattle.av1_blocks.specs.Blocks.{block_width, block_height}
use Rattle.av1_avail.specs.Cells.{block_columns, block_rows, transform_columns, transform_rows, corner}
use Rattle.av1_avail.specs.Availability.{table_top_right, table_bottom_left}
use Rattle.av1_avail.specs.Bits.{bits_top_right, bits_bottom_left}
use Rattle.av1_avail.specs.Order.{interleaved, is_earlier}
use Rattle.av1_avail.specs.Agreement.{IsNearSquare, IsWhole, square_corner, top_right_earlier, bottom_left_earlier}
use Rattle.av1_avail.proofs.Shift.{is_earlier-shift}
use Rattle.av1_avail.proofs.Superblocks.{column-within, row-within, square_corner-shift}
use Rattle.av1_avail.proofs.Parts.{all_three}
use Rattle.av1_avail.proofs.Multiples.{all_multiples, all_multiples_at, where_true}

-- `IsNearSquare` as a test
abbrev is_near_square : BlockSize → Bool
is_near_square b =
    leb (max (block_width b) (block_height b)) 64 && leb (block_width b) (2 * block_height b) && leb (block_height b) (2 * block_width b)

near_square_passes : (b : BlockSize) → IsNearSquare b → is_near_square b ≡ true
near_square_passes b near =
    all_three (leb (max (block_width b) (block_height b)) 64) (leb (block_width b) (2 * block_height b)) (leb (block_height b) (2 * block_width b))
    (le-leb (max (block_width b) (block_height b)) 64 near.small) (le-leb (block_width b) (2 * block_height b) near.wide)
    (le-leb (block_height b) (2 * block_width b) near.high)

-- the answers from the tables for a transform as large as the block, in a plane that is not halved
abbrev whole_top_right : BlockSize → (x y : ℕ) → Bool
whole_top_right b x y = table_top_right b x y (block_columns b) 0 0 0

abbrev whole_bottom_left : BlockSize → (x y : ℕ) → Bool
whole_bottom_left b x y = table_bottom_left b x y (block_rows b) 0 0 0 0

module _ (f g : BlockSize → (x y : ℕ) → Bool) where
  abbrev cell_agrees : BlockSize → (x y : ℕ) → Bool
  cell_agrees b x y = beq (f b x y) (g b x y)

  abbrev column_agrees : BlockSize → (x : ℕ) → Bool
  column_agrees b x = all_multiples (cell_agrees b x) 1 16

  abbrev superblock_agrees : BlockSize → Bool
  superblock_agrees b = elim (is_near_square b) [ true ↦ all_multiples (column_agrees b) 1 16 | false ↦ true ]

  agrees_at : (b : BlockSize) (x y : ℕ) → IsNearSquare b → superblock_agrees b ≡ true → f b (x % 16) (y % 16) ≡ g b (x % 16) (y % 16)
  agrees_at b x y near all =
      let columns = where_true (is_near_square b) (all_multiples (column_agrees b) 1 16) (near_square_passes b near) all in
      let column = all_multiples_at (column_agrees b) 1 16 (x % 16) columns (omega arith) (omega arith) in
      let cell = all_multiples_at (cell_agrees b (x % 16)) 1 16 (y % 16) column (omega arith) (omega arith) in
      (booleans_Decides (f b (x % 16) (y % 16)) (g b (x % 16) (y % 16))).0 cell

top_right_agrees : (b : BlockSize) → superblock_agrees bits_top_right top_right_earlier b ≡ true
unfolding bits_top_right top_right_earlier is_earlier interleaved
top_right_agrees = elim [ BLOCK_4X4 ↦ refl | _ ↦ refl ]

bottom_left_agrees : (b : BlockSize) → superblock_agrees bits_bottom_left bottom_left_earlier b ≡ true
unfolding bits_bottom_left bottom_left_earlier is_earlier interleaved
bottom_left_agrees = elim [ BLOCK_4X4 ↦ refl | _ ↦ refl ]

top_right_table_agrees : (b : BlockSize) → superblock_agrees whole_top_right bits_top_right b ≡ true
unfolding bits_top_right table_top_right
top_right_table_agrees = elim [ BLOCK_4X4 ↦ refl | _ ↦ refl ]

bottom_left_table_agrees : (b : BlockSize) → superblock_agrees whole_bottom_left bits_bottom_left b ≡ true
unfolding bits_bottom_left table_bottom_left
bottom_left_table_agrees = elim [ BLOCK_4X4 ↦ refl | _ ↦ refl ]

-- the low four bits of a number are those of its rest by 16
low_0 : (n : ℕ) → n % 16 / 1 % 2 ≡ n / 1 % 2
low_0 n = omega arith

low_1 : (n : ℕ) → n % 16 / 2 % 2 ≡ n / 2 % 2
low_1 n = omega arith

low_2 : (n : ℕ) → n % 16 / 4 % 2 ≡ n / 4 % 2
low_2 n = omega arith

low_3 : (n : ℕ) → n % 16 / 8 % 2 ≡ n / 8 % 2
low_3 n = omega arith

bits_top_right-within : (b : BlockSize) (x y : ℕ) → bits_top_right b (x % 16) (y % 16) ≡ bits_top_right b x y
unfolding bits_top_right
bits_top_right-within = elim [
  | BLOCK_64X64 ↦ λ x y. refl
  | BLOCK_64X128 ↦ λ x y. refl
  | BLOCK_128X64 ↦ λ x y. refl
  | BLOCK_128X128 ↦ λ x y. refl
  | _ ↦ λ x y. simp (mod-mod, low_0, low_1, low_2, low_3)
]

bits_bottom_left-within : (b : BlockSize) (x y : ℕ) → bits_bottom_left b (x % 16) (y % 16) ≡ bits_bottom_left b x y
unfolding bits_bottom_left
bits_bottom_left-within = elim [
  | BLOCK_64X64 ↦ λ x y. refl
  | BLOCK_64X128 ↦ λ x y. refl
  | BLOCK_128X64 ↦ λ x y. refl
  | BLOCK_128X128 ↦ λ x y. refl
  | _ ↦ λ x y. simp (mod-mod, low_0, low_1, low_2, low_3)
]

whole_top_right-within : (b : BlockSize) (x y : ℕ) → whole_top_right b (x % 16) (y % 16) ≡ whole_top_right b x y
unfolding table_top_right
whole_top_right-within b x y = simp mod-mod

whole_bottom_left-within : (b : BlockSize) (x y : ℕ) → whole_bottom_left b (x % 16) (y % 16) ≡ whole_bottom_left b x y
unfolding table_bottom_left
whole_bottom_left-within b x y = simp mod-mod

module _ (b : BlockSize) (x y : ℕ) (near : IsNearSquare b) where
  -- the corner of the block that holds the cell, and of its superblock's first block that stands alike
  abbrev bx : ℕ
  bx = corner (block_columns b) (x % 16)

  abbrev by : ℕ
  by = corner (block_rows b) (y % 16)

  abbrev s : ℕ
  s = max (block_columns b) (block_rows b)

  top_right_earlier-within : top_right_earlier b x y ≡ top_right_earlier b (x % 16) (y % 16)
  unfolding top_right_earlier
  top_right_earlier-within =
      let at_x = column-within b near.small x in
      let at_y = row-within b near.small y in
      let right : 16 * (x / 16) + (bx + block_columns b) ≡ corner (block_columns b) x + block_columns b = omega (arith, at_x) in
      let above : 16 * (y / 16) + (by - 1) ≡ corner (block_rows b) y - 1 = omega (arith, at_y) in
      let node_x : 16 * (x / 16) + square_corner s bx ≡ square_corner s (corner (block_columns b) x) =
      rw at_x at (sym (square_corner-shift b near.small (x / 16) bx))
      in
      let node_y : 16 * (y / 16) + square_corner s by ≡ square_corner s (corner (block_rows b) y) =
      rw at_y at (sym (square_corner-shift b near.small (y / 16) by))
      in
      rw (right, above, node_x, node_y) at (is_earlier-shift (x / 16) (y / 16) (bx + block_columns b) (by - 1) (square_corner s bx) (square_corner s by))

  bottom_left_earlier-within : bottom_left_earlier b x y ≡ bottom_left_earlier b (x % 16) (y % 16)
  unfolding bottom_left_earlier
  bottom_left_earlier-within =
      let at_x = column-within b near.small x in
      let at_y = row-within b near.small y in
      let left : 16 * (x / 16) + (bx - 1) ≡ corner (block_columns b) x - 1 = omega (arith, at_x) in
      let below : 16 * (y / 16) + (by + block_rows b) ≡ corner (block_rows b) y + block_rows b = omega (arith, at_y) in
      let node_x : 16 * (x / 16) + square_corner s bx ≡ square_corner s (corner (block_columns b) x) =
      rw at_x at (sym (square_corner-shift b near.small (x / 16) bx))
      in
      let node_y : 16 * (y / 16) + square_corner s by ≡ square_corner s (corner (block_rows b) y) =
      rw at_y at (sym (square_corner-shift b near.small (y / 16) by))
      in
      rw (left, below, node_x, node_y) at (is_earlier-shift (x / 16) (y / 16) (bx - 1) (by + block_rows b) (square_corner s bx) (square_corner s by))

  pub bits_top_right_by_order : bits_top_right b x y ≡ top_right_earlier b x y
  bits_top_right_by_order =
      sym (bits_top_right-within b x y) ∙ agrees_at bits_top_right top_right_earlier b x y near (top_right_agrees b)
      ∙ sym top_right_earlier-within

  pub bits_bottom_left_by_order : bits_bottom_left b x y ≡ bottom_left_earlier b x y
  bits_bottom_left_by_order =
      sym (bits_bottom_left-within b x y) ∙ agrees_at bits_bottom_left bottom_left_earlier b x y near (bottom_left_agrees b)
      ∙ sym bottom_left_earlier-within

  module _ (t : TxSize) (r c sx sy : ℕ) (whole : IsWhole b t r c sx sy) where
    pub top_right_by_bits : table_top_right b x y (transform_columns t) r c sx ≡ bits_top_right b x y
    top_right_by_bits =
        rw (whole.columns, whole.row_at, whole.column_at, whole.plain_x)
        (sym (whole_top_right-within b x y) ∙ agrees_at whole_top_right bits_top_right b x y near (top_right_table_agrees b)
        ∙ bits_top_right-within b x y)

    pub bottom_left_by_bits : table_bottom_left b x y (transform_rows t) r c sx sy ≡ bits_bottom_left b x y
    bottom_left_by_bits =
        rw (whole.rows, whole.row_at, whole.column_at, whole.plain_x, whole.plain_y)
        (sym (whole_bottom_left-within b x y) ∙ agrees_at whole_bottom_left bits_bottom_left b x y near (bottom_left_table_agrees b)
        ∙ bits_bottom_left-within b x y)
