-- What the passes are handed: coefficients of a block, their rows and its columns.
use Rattle.std.proofs.Common.{ℕ, true, false, cond, ◌&&◌, ◌≡◌, ◌≤◌, ◌<◌, ◌+◌, ◌*◌, ◌/◌, ◌^◌, ℤ, List, IsTrue, map, length, arith, subst, sym, refl}
use Rattle.av1_blocks.specs.declared.transform.TxSize.{TxSize}
use Rattle.av1_blocks.specs.declared.transform.TxSize.TheVariants.{TX_4X4}
use Rattle.av1_blocks.specs.declared.transform.TxType.TheVariants.{WHT_WHT}
use Rattle.av1_blocks.specs.Depths.{IsDepth}
use Rattle.av1_blocks.specs.Transforms.{tx_width, tx_height, coded, coded_area, valid_av1_transform}
use Rattle.av1_dct.specs.Arithmetic.{at, FitsBits}
use Rattle.av1_itx.specs.declared.block.Block.{Block}
use Rattle.av1_itx.specs.declared.inverse.StridedArea.{StridedArea}
use Rattle.av1_itx.specs.Kinds.{column_kind}
use Rattle.av1_itx.specs.Networks.{HasNetwork}
use Rattle.av1_itx.specs.Residue.{column_power, column_range, is_lossless, row_power}
use Rattle.av1_itx.specs.Scaffolding.{AreCoefficients, AreColumns, IsPlaceFor, block_columns, column_bits}
use Rattle.av1_itx.proofs.Sizes.{both_run, sides}
use Rattle.av1_itx.proofs.Widths.{is_length}

-- sides are twice a power of two
pub powers : (size : TxSize) → (tx_width size ≡ 2 * 2 ^ row_power size) × (tx_height size ≡ 2 * 2 ^ column_power size)
powers size = elim size as (λ t. (tx_width t ≡ 2 * 2 ^ row_power t) × (tx_height t ≡ 2 * 2 ^ column_power t)) [ TX_4X4 ↦ (refl, refl) | _ ↦ (refl, refl) ]

-- widths are multiples of four, and of eight where they are so great
pub groups : (size : TxSize) → (4 * (tx_width size / 4) ≡ tx_width size) × (8 ≤ tx_width size → 8 * (tx_width size / 8) ≡ tx_width size) × (tx_width size ≤ 64)
groups size =
    elim size as (λ t. (4 * (tx_width t / 4) ≡ tx_width t) × (8 ≤ tx_width t → 8 * (tx_width t / 8) ≡ tx_width t) × (tx_width t ≤ 64))
    [ TX_4X4 ↦ (refl, (λ h. omega arith), omega arith) | _ ↦ (refl, (λ h. omega arith), omega arith) ]

-- so is the width of the place for a block
pub width_in_fours : {block : Block} {place : StridedArea} {count : ℕ} → IsPlaceFor block place count → 4 * (place.area.width / 4) ≡ place.area.width
width_in_fours {block} p = subst (λ (n : ℕ). 4 * (n / 4) ≡ n) (sym p.width) (groups block.tx_size).0

pub width_in_eights : {block : Block} {place : StridedArea} {count : ℕ} → IsPlaceFor block place count → 8 ≤ place.area.width →
    8 * (place.area.width / 8) ≡ place.area.width
width_in_eights {block} p = subst (λ (n : ℕ). 8 ≤ n → 8 * (n / 8) ≡ n) (sym p.width) (groups block.tx_size).1

-- how many samples and coefficients a block has at most
pub areas : (size : TxSize) → (tx_height size * tx_width size ≤ 4096) × (tx_width size * coded (tx_height size) ≤ 2048)
areas size =
    elim size as (λ t. (tx_height t * tx_width t ≤ 4096) × (tx_width t * coded (tx_height t) ≤ 2048))
    [ TX_4X4 ↦ (omega arith, omega arith) | _ ↦ (omega arith, omega arith) ]

pub coefficients_are : {C : Type 0} (val : C → ℤ) (block : Block) (input : List C) → IsDepth block.bd
    → IsTrue (valid_av1_transform block.tx_size block.tx_type) → (block.tx_type ≡ WHT_WHT → block.tx_size ≡ TX_4X4)
    → ((i : ℕ) → i < coded_area block.tx_size → FitsBits (block.bd + 8) (at (map val input) i)) → AreCoefficients val block input
coefficients_are val block input depth valid lossless fit =
    let both = both_run block.tx_size block.tx_type valid lossless in
    record { depth = (omega arith, omega arith); rows = both.0; columns = both.1; fit = fit }

pub bits_in : (block : Block) → block.bd ≤ 12 → (16 ≤ column_bits block) × (column_bits block ≤ 20)
bits_in block few =
    elim (block.by_av1 && is_lossless block.tx_type) as (λ b. (16 ≤ cond b 20 (column_range block.bd)) × (cond b 20 (column_range block.bd) ≤ 20))
    [ true ↦ (omega arith, omega arith) | false ↦ (omega arith, omega (arith, few)) ]

-- columns that rows have left
pub columns_are : (block : Block) (buffer : List ℤ) → (8 ≤ block.bd) × (block.bd ≤ 12)
    → HasNetwork (column_kind block.tx_type) (column_power block.tx_size) → length buffer ≡ tx_height block.tx_size * tx_width block.tx_size
    → ((r c : ℕ) → r < tx_height block.tx_size → c < tx_width block.tx_size
    → FitsBits (column_bits block) (at buffer (r * tx_width block.tx_size + c)))
    → AreColumns (block_columns block) buffer
columns_are block buffer depth has long fit =
    let size = block.tx_size in
    let bits = bits_in block depth.1 in
    let s = sides size in
    let g = groups size in
    record {
      fours = g.0;
      eights = g.1;
      within = omega arith;
      few = g.2;
      height = is_length (column_power size) (tx_height size) s.2 s.3 (powers size).1;
      power = (powers size).1;
      has = has;
      long = long;
      range = (omega (arith, bits), bits.1);
      fit = fit;
    }
