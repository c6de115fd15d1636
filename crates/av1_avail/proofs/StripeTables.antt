-- The lists of the 4:1 sizes against those of the squares, by a test over all their bits, which computes.
use Rattle.std.proofs.Common.{◌≡◌, ℕ, ◌*◌, ◌/◌, ◌<◌, Bool, true, false, ◌&&◌, ◌||◌, eqb, refl, arith}
use Rattle.std.proofs.lemmas.Bool.{eq-eqb, ne_eqb}
use Rattle.std.proofs.Math.Bool.{beq}
use Rattle.std.specs.Cmp.{booleans_Decides}
use Rattle.av1_blocks.specs.declared.partition.BlockSize.{BlockSize}
use Rattle.av1_blocks.specs.declared.partition.BlockSize.TheVariants.{BLOCK_4X4}
use Rattle.av1_blocks.specs.Blocks.{block_width, block_height}
use Rattle.av1_avail.specs.Cells.{block_columns, block_rows}
use Rattle.av1_avail.specs.Tables.{block_bit, top_right_table, bottom_left_table}
use Rattle.av1_avail.specs.Stripes.{IsUpright, IsFlat, IsInRaster, upright_top_right, flat_top_right, upright_bottom_left, flat_bottom_left}
use Rattle.av1_avail.proofs.Parts.{all_three}
use Rattle.av1_avail.proofs.Multiples.{all_multiples, all_multiples_at, where_true}

-- `IsUpright` and `IsFlat` as tests
abbrev is_upright : (b square : BlockSize) → Bool
is_upright b square =
    eqb (block_height b) (block_height square) && eqb (4 * block_width b) (block_width square) && eqb (block_width square) (block_height square)

abbrev is_flat : (b square : BlockSize) → Bool
is_flat b square =
    eqb (block_width b) (block_width square) && eqb (4 * block_height b) (block_height square) && eqb (block_width square) (block_height square)

upright_passes : (b square : BlockSize) → IsUpright b square → is_upright b square ≡ true
upright_passes b square u =
    all_three (eqb (block_height b) (block_height square)) (eqb (4 * block_width b) (block_width square)) (eqb (block_width square) (block_height square))
    (eq-eqb (block_height b) (block_height square) u.height) (eq-eqb (4 * block_width b) (block_width square) u.width)
    (eq-eqb (block_width square) (block_height square) u.square_sides)

flat_passes : (b square : BlockSize) → IsFlat b square → is_flat b square ≡ true
flat_passes b square u =
    all_three (eqb (block_width b) (block_width square)) (eqb (4 * block_height b) (block_height square)) (eqb (block_width square) (block_height square))
    (eq-eqb (block_width b) (block_width square) u.width) (eq-eqb (4 * block_height b) (block_height square) u.height)
    (eq-eqb (block_width square) (block_height square) u.square_sides)

module _ (stripe : (b square : BlockSize) → Bool) (f g : (b square : BlockSize) (row column : ℕ) → Bool) where
  abbrev block_agrees : (b square : BlockSize) (row column : ℕ) → Bool
  block_agrees b square row column = beq (f b square row column) (g b square row column)

  abbrev row_agrees : (b square : BlockSize) (row : ℕ) → Bool
  row_agrees b square row = all_multiples (block_agrees b square row) 1 (32 / block_columns b)

  abbrev list_agrees : (b square : BlockSize) → Bool
  list_agrees b square = elim (stripe b square) [ true ↦ all_multiples (row_agrees b square) 1 (32 / block_rows b) | false ↦ true ]

  agrees_at : (b square : BlockSize) (row column : ℕ) → stripe b square ≡ true → IsInRaster b row column → list_agrees b square ≡ true
      → f b square row column ≡ g b square row column
  agrees_at b square row column passes place all =
      let rows = where_true (stripe b square) (all_multiples (row_agrees b square) 1 (32 / block_rows b)) passes all in
      let in_row = all_multiples_at (row_agrees b square) 1 (32 / block_rows b) row rows place.row_within (omega arith) in
      let block = all_multiples_at (block_agrees b square row) 1 (32 / block_columns b) column in_row place.column_within (omega arith) in
      (booleans_Decides (f b square row column) (g b square row column)).0 block

-- the bit in the list of the stripe, and what is said of it
abbrev top_right_bit : (b square : BlockSize) (row column : ℕ) → Bool
top_right_bit b square row column = block_bit (top_right_table b) b row column

abbrev bottom_left_bit : (b square : BlockSize) (row column : ℕ) → Bool
bottom_left_bit b square row column = block_bit (bottom_left_table b) b row column

abbrev upright_above : (b square : BlockSize) (row column : ℕ) → Bool
upright_above b square row column = upright_top_right square row column

abbrev flat_above : (b square : BlockSize) (row column : ℕ) → Bool
flat_above b square row column = flat_top_right square row column

abbrev upright_below : (b square : BlockSize) (row column : ℕ) → Bool
upright_below b square row column = upright_bottom_left square row column

upright_above_agrees : (b square : BlockSize) → list_agrees is_upright top_right_bit upright_above b square ≡ true
upright_above_agrees = elim [ BLOCK_4X4 ↦ elim [ BLOCK_4X4 ↦ refl | _ ↦ refl ] | _ ↦ elim [ BLOCK_4X4 ↦ refl | _ ↦ refl ] ]

flat_above_agrees : (b square : BlockSize) → list_agrees is_flat top_right_bit flat_above b square ≡ true
flat_above_agrees = elim [ BLOCK_4X4 ↦ elim [ BLOCK_4X4 ↦ refl | _ ↦ refl ] | _ ↦ elim [ BLOCK_4X4 ↦ refl | _ ↦ refl ] ]

upright_below_agrees : (b square : BlockSize) → list_agrees is_upright bottom_left_bit upright_below b square ≡ true
upright_below_agrees = elim [ BLOCK_4X4 ↦ elim [ BLOCK_4X4 ↦ refl | _ ↦ refl ] | _ ↦ elim [ BLOCK_4X4 ↦ refl | _ ↦ refl ] ]

-- the first column, of which nothing is said, counts as agreeing
abbrev past_first : (f : (b square : BlockSize) (row column : ℕ) → Bool) → (b square : BlockSize) (row column : ℕ) → Bool
past_first f b square row column = eqb column 0 || f b square row column

abbrev flat_below : (b square : BlockSize) (row column : ℕ) → Bool
flat_below b square row column = flat_bottom_left square row column

flat_below_agrees : (b square : BlockSize) → list_agrees is_flat (past_first bottom_left_bit) (past_first flat_below) b square ≡ true
flat_below_agrees = elim [ BLOCK_4X4 ↦ elim [ BLOCK_4X4 ↦ refl | _ ↦ refl ] | _ ↦ elim [ BLOCK_4X4 ↦ refl | _ ↦ refl ] ]

module _ (b square : BlockSize) (row column : ℕ) where
  pub upright_top_right_holds : IsUpright b square → IsInRaster b row column → block_bit (top_right_table b) b row column ≡ upright_top_right square row column
  upright_top_right_holds upright place =
      agrees_at is_upright top_right_bit upright_above b square row column (upright_passes b square upright) place (upright_above_agrees b square)

  pub flat_top_right_holds : IsFlat b square → IsInRaster b row column → block_bit (top_right_table b) b row column ≡ flat_top_right square row column
  flat_top_right_holds flat place =
      agrees_at is_flat top_right_bit flat_above b square row column (flat_passes b square flat) place (flat_above_agrees b square)

  pub upright_bottom_left_holds : IsUpright b square → IsInRaster b row column →
      block_bit (bottom_left_table b) b row column ≡ upright_bottom_left square row column
  upright_bottom_left_holds upright place =
      agrees_at is_upright bottom_left_bit upright_below b square row column (upright_passes b square upright) place (upright_below_agrees b square)

  pub flat_bottom_left_holds : IsFlat b square → IsInRaster b row column → 0 < column →
      block_bit (bottom_left_table b) b row column ≡ flat_bottom_left square row column
  flat_bottom_left_holds flat place past =
      rw (ne_eqb column 0 (λ e. omega arith)) at
      (agrees_at is_flat (past_first bottom_left_bit)
      (past_first flat_below) b square row column (flat_passes b square flat) place (flat_below_agrees b square))
