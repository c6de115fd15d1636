-- The answers from the tables against coding order: a test over all blocks of a superblock, which computes, and moved to any place.
use Rattle.std.proofs.Common.{◌≡◌, ℕ, ◌/◌, ◌%◌, ◌^◌, ◌<◌, max, Bool, true, false, ◌&&◌, leb, eqb, refl, sym, ◌∙◌, arith}
use Rattle.std.proofs.lemmas.Bool.{le-leb, eq-eqb}
use Rattle.std.proofs.Math.Bool.{beq}
use Rattle.std.specs.Cmp.{booleans_Decides}
use Rattle.av1_blocks.specs.declared.partition.BlockSize.{BlockSize}
use Rattle.av1_blocks.specs.declared.partition.BlockSize.TheVariants.{BLOCK_4X4}
use Rattle.av1_blocks.specs.declared.transform.TxSize.{TxSize}
use Rattle.av1_blocks.specs.declared.transform.TxSize.TheVariants.{TX_4X4}
use Rattle.av1_blocks.specs.Blocks.{block_width, block_height}
use Rattle.av1_avail.specs.Cells.{block_columns, block_rows, transform_columns, transform_rows}
use Rattle.av1_avail.specs.Availability.{table_top_right, table_bottom_left}
use Rattle.av1_avail.specs.Order.{next_before, is_before_in_block, is_in, is_earlier, interleaved}
use Rattle.av1_avail.specs.Agreement.{TablesFollowOrder, IsTile, run_length, top_right_before, bottom_left_before}
use Rattle.av1_avail.proofs.Superblocks.{start, column_start, row_start, top_right_before-start, bottom_left_before-start}
use Rattle.av1_avail.proofs.Parts.{all_five}
use Rattle.av1_avail.proofs.Multiples.{all_multiples, all_multiples_at, where_true}

-- `IsTile`, but for the offsets, as a test
abbrev are_tiles : BlockSize → TxSize → (sx sy : ℕ) → Bool
are_tiles b t sx sy =
    leb (max (block_width b) (block_height b)) 64 && leb (2 ^ sx) (block_columns b) && leb (2 ^ sy) (block_rows b)
    && eqb (block_columns b / 2 ^ sx % transform_columns t) 0 && eqb (block_rows b / 2 ^ sy % transform_rows t) 0

tiles_pass : (b : BlockSize) (t : TxSize) (r c sx sy : ℕ) → IsTile b t r c sx sy → are_tiles b t sx sy ≡ true
tiles_pass b t r c sx sy tile =
    all_five (leb (max (block_width b) (block_height b)) 64) (leb (2 ^ sx) (block_columns b)) (leb (2 ^ sy) (block_rows b))
    (eqb (block_columns b / 2 ^ sx % transform_columns t) 0) (eqb (block_rows b / 2 ^ sy % transform_rows t) 0)
    (le-leb (max (block_width b) (block_height b)) 64 tile.small) (le-leb (2 ^ sx) (block_columns b) tile.whole_columns)
    (le-leb (2 ^ sy) (block_rows b) tile.whole_rows) (eq-eqb (block_columns b / 2 ^ sx % transform_columns t) 0 tile.across)
    (eq-eqb (block_rows b / 2 ^ sy % transform_rows t) 0 tile.along)

abbrev top_right_answer : BlockSize → (x y : ℕ) → TxSize → (r c sx sy : ℕ) → Bool
top_right_answer b x y t r c sx sy = table_top_right b x y (transform_columns t) r c sx

abbrev bottom_left_answer : BlockSize → (x y : ℕ) → TxSize → (r c sx sy : ℕ) → Bool
bottom_left_answer b x y t r c sx sy = table_bottom_left b x y (transform_rows t) r c sx sy

module _ (f : BlockSize → (x y : ℕ) → TxSize → (r c sx sy : ℕ) → Bool) (g : BlockSize → (x y : ℕ) → TxSize → (r c sx sy i : ℕ) → Bool) where
  -- over the units past a transform, the transforms of a row, the rows of transforms, the blocks of a column, the columns of blocks, the
  -- sizes that tile, and the shifts
  abbrev unit_agrees : BlockSize → TxSize → (sx sy x y r c i : ℕ) → Bool
  unit_agrees b t sx sy x y r c i = beq (f b x y t r c sx sy) (g b x y t r c sx sy i)

  abbrev transform_agrees : BlockSize → TxSize → (sx sy x y r c : ℕ) → Bool
  transform_agrees b t sx sy x y r c = all_multiples (unit_agrees b t sx sy x y r c) 1 (run_length t)

  abbrev row_agrees : BlockSize → TxSize → (sx sy x y r : ℕ) → Bool
  row_agrees b t sx sy x y r = all_multiples (transform_agrees b t sx sy x y r) (transform_columns t) (block_columns b / 2 ^ sx)

  abbrev block_agrees : BlockSize → TxSize → (sx sy x y : ℕ) → Bool
  block_agrees b t sx sy x y = all_multiples (row_agrees b t sx sy x y) (transform_rows t) (block_rows b / 2 ^ sy)

  abbrev column_agrees : BlockSize → TxSize → (sx sy x : ℕ) → Bool
  column_agrees b t sx sy x = all_multiples (block_agrees b t sx sy x) (block_rows b) 16

  abbrev superblock_agrees : BlockSize → TxSize → (sx sy : ℕ) → Bool
  superblock_agrees b t sx sy = elim (are_tiles b t sx sy) [ true ↦ all_multiples (column_agrees b t sx sy) (block_columns b) 16 | false ↦ true ]

  abbrev halved_agrees : BlockSize → TxSize → (sx : ℕ) → Bool
  halved_agrees b t sx = all_multiples (superblock_agrees b t sx) 1 2

  abbrev size_agrees : BlockSize → TxSize → Bool
  size_agrees b t = all_multiples (halved_agrees b t) 1 2

top_right_agrees : (b : BlockSize) (t : TxSize) → size_agrees top_right_answer top_right_before b t ≡ true
unfolding table_top_right top_right_before next_before is_before_in_block is_in is_earlier interleaved
top_right_agrees = elim [ BLOCK_4X4 ↦ elim [ TX_4X4 ↦ refl | _ ↦ refl ] | _ ↦ elim [ TX_4X4 ↦ refl | _ ↦ refl ] ]

bottom_left_agrees : (b : BlockSize) (t : TxSize) → size_agrees bottom_left_answer bottom_left_before b t ≡ true
unfolding table_bottom_left bottom_left_before next_before is_before_in_block is_in is_earlier interleaved
bottom_left_agrees = elim [ BLOCK_4X4 ↦ elim [ TX_4X4 ↦ refl | _ ↦ refl ] | _ ↦ elim [ TX_4X4 ↦ refl | _ ↦ refl ] ]

module _ (b : BlockSize) (t : TxSize) (x y r c sx sy i : ℕ) (tile : IsTile b t r c sx sy) (near : i < run_length t) where
  size_agrees_at : (f : BlockSize → (x y : ℕ) → TxSize → (r c sx sy : ℕ) → Bool) (g : BlockSize → (x y : ℕ) → TxSize → (r c sx sy i : ℕ) → Bool)
      → size_agrees f g b t ≡ true
      → f b (start (block_columns b) x) (start (block_rows b) y) t r c sx sy ≡ g b (start (block_columns b) x) (start (block_rows b) y) t r c sx sy i
  size_agrees_at f g all =
      let x0 = start (block_columns b) x in
      let y0 = start (block_rows b) y in
      let halved = all_multiples_at (halved_agrees f g b t) 1 2 sx all (omega (arith, tile.halved_x)) (omega arith) in
      let full = all_multiples_at (superblock_agrees f g b t sx) 1 2 sy halved (omega (arith, tile.halved_y)) (omega arith) in
      let columns =
      where_true (are_tiles b t sx sy) (all_multiples (column_agrees f g b t sx sy) (block_columns b) 16) (tiles_pass b t r c sx sy tile) full
      in
      let column = all_multiples_at (column_agrees f g b t sx sy) (block_columns b) 16 x0 columns (column_start b x).0 (column_start b x).1 in
      let block = all_multiples_at (block_agrees f g b t sx sy x0) (block_rows b) 16 y0 column (row_start b y).0 (row_start b y).1 in
      let row = all_multiples_at (row_agrees f g b t sx sy x0 y0) (transform_rows t) (block_rows b / 2 ^ sy) r block tile.row_within tile.row_at in
      let transform =
      all_multiples_at (transform_agrees f g b t sx sy x0 y0 r) (transform_columns t) (block_columns b / 2 ^ sx) c row tile.column_within tile.column_at
      in
      let unit = all_multiples_at (unit_agrees f g b t sx sy x0 y0 r c) 1 (run_length t) i transform near (omega arith) in
      (booleans_Decides (f b x0 y0 t r c sx sy) (g b x0 y0 t r c sx sy i)).0 unit

  pub top_right_by_order : table_top_right b x y (transform_columns t) r c sx ≡ top_right_before b x y t r c sx sy i
  unfolding table_top_right
  top_right_by_order =
      let placed = rw ((column_start b x).2, (row_start b y).2) at (size_agrees_at top_right_answer top_right_before (top_right_agrees b t)) in
      placed ∙ sym (top_right_before-start b tile.small t r c sx sy i tile.halved_x tile.halved_y x y)

  pub bottom_left_by_order : table_bottom_left b x y (transform_rows t) r c sx sy ≡ bottom_left_before b x y t r c sx sy i
  unfolding table_bottom_left
  bottom_left_by_order =
      let placed = rw ((column_start b x).2, (row_start b y).2) at (size_agrees_at bottom_left_answer bottom_left_before (bottom_left_agrees b t)) in
      placed ∙ sym (bottom_left_before-start b tile.small t r c sx sy i tile.halved_x tile.halved_y x y)

pub tables_follow : TablesFollowOrder
tables_follow b t x y r c sx sy tile = record {
  top_right = λ i near. top_right_by_order b t x y r c sx sy i tile near;
  bottom_left = λ i near. bottom_left_by_order b t x y r c sx sy i tile near;
}
