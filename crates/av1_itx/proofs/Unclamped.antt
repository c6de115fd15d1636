-- Lossless rows: their values have few bits, so that nothing but a clamp to still fewer changes them.
use Rattle.std.proofs.Common.{ℕ, Bool, true, false, cond, ◌&&◌, ◌≡◌, ◌+◌, ◌-◌, ◌*◌, ◌<◌, ◌≤◌, ℤ, pos, negsuc}
use Rattle.std.proofs.Common.{List, All, map, arith, refl, sym, subst, inl, inr}
use Rattle.std.specs.Int.{int_shr}
use Rattle.std.proofs.lemmas.Bool.{cases_lt}
use Rattle.std.proofs.lemmas.Int.{ints, clamps}
use Rattle.std.proofs.lemmas.List.{get_or_past}
use Rattle.std.proofs.lemmas.Nat.{pow_pos}
use Rattle.av1_blocks.specs.declared.transform.TxSize.{TxSize}
use Rattle.av1_blocks.specs.declared.transform.TxSize.TheVariants.{TX_4X4}
use Rattle.av1_blocks.specs.declared.transform.TxType.{TxType}
use Rattle.av1_blocks.specs.declared.transform.TxType.TheVariants.{WHT_WHT}
use Rattle.av1_blocks.specs.Transforms.{coded_area}
use Rattle.av1_dct.specs.Arithmetic.{FitsBits, at, clamp_value}
use Rattle.av1_dct.proofs.Fits.{all-fit, clamp_value-fits, clamped_same, fits_wider}
use Rattle.av1_dct.proofs.Places.{at-by_index}
use Rattle.av1_frame.specs.Arithmetic.{round_shift}
use Rattle.av1_lists.specs.Lists.{by_index}
use Rattle.av1_lists.proofs.Lists.{length-by_index}
use Rattle.av1_itx.specs.Kinds.{column_kind, row_kind}
use Rattle.av1_itx.specs.Networks.{HasNetwork, network_with}
use Rattle.av1_itx.specs.Residue.{column_power, column_range, column_value, is_lossless, row_input, row_power}
use Rattle.av1_itx.specs.Residue.{row_shift, row_value, transformed_row}
use Rattle.av1_itx.specs.Scaffolding.{AreCoefficients, column_bits}
use Rattle.av1_itx.specs.declared.block.Block.{Block}
use Rattle.av1_itx.proofs.Passes.{input_in, input_past, row_is, row_past}
use Rattle.av1_itx.proofs.Raised.{rounded_none}
use Rattle.av1_itx.proofs.Outputs.{Within, walsh_within}

-- ---- what rows give

clamp_within : (p b : ℕ) (z : ℤ) → 1 ≤ p → Within p z → Within p (clamp_value z b)
unfolding clamp_value
clamp_within p b z some f =
    let more = pow_pos (b - 1) in
    record { low = omega (arith, ints, clamps, f.low, f.high); high = omega (arith, ints, clamps, f.low, f.high) }

quarter_within : (p : ℕ) (z : ℤ) → Within (4 * p) z → Within p (int_shr z 2)
quarter_within p (pos a) f = record { low = omega (arith, ints); high = omega (arith, ints, f.high) }
quarter_within p (negsuc a) f = record { low = omega (arith, ints, f.low); high = omega (arith, ints) }

zero_within : (p : ℕ) → 1 ≤ p → Within p (pos 0)
zero_within p some = record { low = omega (arith, ints); high = omega (arith, ints) }

value_within : (p depth : ℕ) (z : ℤ) → 1 ≤ p → Within (4 * p) z → Within p (row_value TX_4X4 WHT_WHT depth z)
unfolding row_value
value_within p depth z some f = clamp_within p (depth + 8) (int_shr z 2) some (quarter_within p z f)

module _ (p depth : ℕ) (cs : List ℤ) (some : 1 ≤ p) (fit : (i : ℕ) → i < 16 → Within (4 * p) (at cs i)) where
  input_within : (r c : ℕ) → r < 4 → Within p (row_input TX_4X4 WHT_WHT depth cs r c)
  input_within r c hr =
      elim (cases_lt c 4) [
        | inl hc ↦ subst (Within p) (input_in TX_4X4 WHT_WHT depth cs r c hc)
            (value_within p depth (at cs (c * 4 + r)) some (fit (c * 4 + r) (omega (arith, hr, hc))))
        | inr hc ↦ subst (Within p) (input_past TX_4X4 WHT_WHT depth cs r c hc) (zero_within p some)
      ]

  line_within : (r : ℕ) → r < 4 → (i : ℕ) → Within p (at (by_index 4 (row_input TX_4X4 WHT_WHT depth cs r)) i)
  line_within r hr i =
      let f = row_input TX_4X4 WHT_WHT depth cs r in
      elim (cases_lt i 4) [
        | inl hi ↦ subst (Within p) (sym (at-by_index 4 f i hi)) (input_within r i hr)
        | inr hi ↦ subst (Within p) (sym (get_or_past (by_index 4 f) i (pos 0) (omega (arith, hi, length-by_index 4 f)))) (zero_within p some)
      ]

  -- a value of a row
  row_within : (by_av1 : Bool) (r c : ℕ) → Within (2 * p) (at (transformed_row by_av1 TX_4X4 WHT_WHT depth cs r) c)
  unfolding network_with
  row_within true r c =
      elim (cases_lt r 4) [
        | inl hr ↦ subst (Within (2 * p)) (row_is true TX_4X4 WHT_WHT depth cs r c hr)
            (walsh_within p (by_index 4 (row_input TX_4X4 WHT_WHT depth cs r)) some (line_within r hr) c)
        | inr hr ↦ subst (Within (2 * p)) (sym (row_past true TX_4X4 WHT_WHT depth cs r c hr)) (zero_within (2 * p) (omega (arith, some)))
      ]
  row_within false r c =
      elim (cases_lt r 4) [
        | inl hr ↦ subst (Within (2 * p)) (row_is false TX_4X4 WHT_WHT depth cs r c hr)
            (walsh_within p (by_index 4 (row_input TX_4X4 WHT_WHT depth cs r)) some (line_within r hr) c)
        | inr hr ↦ subst (Within (2 * p)) (sym (row_past false TX_4X4 WHT_WHT depth cs r c hr)) (zero_within (2 * p) (omega (arith, some)))
      ]

-- of coefficients that have so many bits as those of the greatest depth
pub lossless_fits : (depth : ℕ) (cs : List ℤ) (r c : ℕ) → depth ≤ 12 → ((i : ℕ) → i < 16 → FitsBits (depth + 8) (at cs i))
    → FitsBits 20 (round_shift (at (transformed_row true TX_4X4 WHT_WHT depth cs r) c) 0)
lossless_fits depth cs r c few fit =
    let z = at (transformed_row true TX_4X4 WHT_WHT depth cs r) c in
    let w = row_within 131072 depth cs (omega arith)
    (λ i h. let f = fits_wider (depth + 8) 20 _ (omega (arith, few)) (fit i h) in record { low = f.low; high = f.high }) true r c
    in
    subst (FitsBits 20) (sym (rounded_none z)) (record { low = omega (arith, ints, w.low); high = omega (arith, ints, w.high) })

-- of coefficients of 17 bits
pub few_fit : (depth : ℕ) (cs : List ℤ) (r c : ℕ) → All (FitsBits 17) cs →
    FitsBits 16 (round_shift (at (transformed_row false TX_4X4 WHT_WHT depth cs r) c) 0)
few_fit depth cs r c fit =
    let z = at (transformed_row false TX_4X4 WHT_WHT depth cs r) c in
    let w = row_within 16384 depth cs (omega arith)
    (λ i _. let f = all-fit 17 17 cs (omega arith) fit i in record { low = f.low; high = f.high }) false r c
    in
    subst (FitsBits 16) (sym (rounded_none z)) (record { low = omega (arith, ints, w.low); high = omega (arith, ints, w.high) })

-- ---- a lossless block has 4 rows and 4 columns

only_4x4 : (size : TxSize) → row_power size ≡ 1 → column_power size ≡ 1 → size ≡ TX_4X4
only_4x4 size =
    elim size as (λ t. row_power t ≡ 1 → column_power t ≡ 1 → t ≡ TX_4X4)
    [ TX_4X4 ↦ (λ a b. refl) | _ ↦ (λ a b. absurd (omega (arith, a, b))) ]

-- what a column of such a block takes by AV1's rule
pub taken_fits : (by_av1 : Bool) (size : TxSize) (type : TxType) (depth : ℕ) (cs : List ℤ) (r c : ℕ) → depth ≤ 12
    → HasNetwork (row_kind type) (row_power size) → HasNetwork (column_kind type) (column_power size)
    → ((i : ℕ) → i < coded_area size → FitsBits (depth + 8) (at cs i)) → (by_av1 && is_lossless type) ≡ true
    → FitsBits 20 (round_shift (at (transformed_row by_av1 size type depth cs r) c) (row_shift size))
taken_fits false size type depth cs r c few rows columns fit told = absurd (let no : false ≡ true = told in cc)
taken_fits true size type depth cs r c few rows columns fit told =
    (elim type as
    (λ t. HasNetwork (row_kind t) (row_power size) → HasNetwork (column_kind t) (column_power size) → (true && is_lossless t) ≡ true
    → FitsBits 20 (round_shift (at (transformed_row true size t depth cs r) c) (row_shift size))) [
      | WHT_WHT ↦ λ a b _. (let small : size ≡ TX_4X4 = only_4x4 size a b in
          subst (λ (s : TxSize). FitsBits 20 (round_shift (at (transformed_row true s WHT_WHT depth cs r) c) (row_shift s))) (sym small)
          (lossless_fits depth cs r c few (subst (λ (s : TxSize). (i : ℕ) → i < coded_area s → FitsBits (depth + 8) (at cs i)) small fit)))
      | _ ↦ λ a b e. absurd (let no : false ≡ true = e in cc)
    ]) rows columns told

-- a clamp to 20 bits does nothing where the columns take a value as it is
pub kept : (b : Bool) (n : ℕ) (v : ℤ) → (b ≡ true → FitsBits 20 v) → clamp_value v (cond b 20 n) ≡ cond b v (clamp_value v n)
kept true n v fit = clamped_same 20 v (fit refl)
kept false n v fit = refl

kept_fits : (b : Bool) (n : ℕ) (v : ℤ) → (b ≡ true → FitsBits 20 v) → FitsBits (cond b 20 n) (cond b v (clamp_value v n))
kept_fits true n v fit = fit refl
kept_fits false n v fit = clamp_value-fits v n (omega arith)

-- what the columns of a block take fits
pub columns_take : {C : Type 0} (block : Block) (val : C → ℤ) (input : List C) → AreCoefficients val block input → (r c : ℕ) →
    FitsBits (column_bits block)
    (column_value block.by_av1 block.tx_size block.tx_type block.bd
    (at (transformed_row block.by_av1 block.tx_size block.tx_type block.bd (map val input) r) c))
columns_take block val input are r c =
    kept_fits (block.by_av1 && is_lossless block.tx_type) (column_range block.bd) _
    (taken_fits block.by_av1 block.tx_size block.tx_type block.bd (map val input) r c are.depth.1 are.rows are.columns are.fit)
