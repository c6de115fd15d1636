-- Blocks that take the cosine transform both ways and have no coefficient but their first.
use Rattle.std.proofs.Common.{ℕ, Bool, true, false, refl, ◌≡◌, ◌+◌, ◌*◌, ◌^◌, ◌<◌, ◌≤◌, ℤ, pos, List, arith, ap, sym, ◌∙◌, inl, inr}
use Rattle.std.proofs.lemmas.Bool.{cases_lt}
use Rattle.std.proofs.lemmas.List.{get_or_past}
use Rattle.std.proofs.Math.Nat.{le-mul_of_pos_right}
use Rattle.av1_blocks.specs.declared.transform.TxSize.{TxSize}
use Rattle.av1_blocks.specs.declared.transform.TxType.{TxType}
use Rattle.av1_blocks.specs.declared.transform.TxType.TheVariants.{WHT_WHT}
use Rattle.av1_blocks.specs.Transforms.{tx_width, tx_height, coded}
use Rattle.av1_dct.specs.Arithmetic.{at, clamp_value}
use Rattle.av1_dct.specs.Cosine.{cosine}
use Rattle.av1_dct.specs.Operations.{half_btf}
use Rattle.av1_dct.proofs.Places.{at-by_index}
use Rattle.av1_dct.proofs.Single.{IsSingle, single}
use Rattle.av1_frame.specs.Arithmetic.{round_shift}
use Rattle.av1_lists.specs.Lists.{by_index}
use Rattle.av1_lists.proofs.Lists.{length-by_index}
use Rattle.av1_itx.specs.declared.block.Block.{Block}
use Rattle.av1_itx.specs.Kinds.{column_kind, row_kind, row_kind_by}
use Rattle.av1_itx.specs.LaneGroups.{is_cosine}
use Rattle.av1_itx.specs.Residue.{column_network, column_power, column_range, column_shift, column_value, residue_by, row_input, row_power, row_range}
use Rattle.av1_itx.specs.Residue.{row_shift}
use Rattle.av1_itx.specs.Residue.{row_value}
use Rattle.av1_itx.specs.Residue.{transformed_column, transformed_row}
use Rattle.av1_itx.specs.Scaffolding.{top_of}
use Rattle.av1_itx.proofs.Eights.{cosine_value}
use Rattle.av1_itx.proofs.Handed.{powers}
use Rattle.av1_itx.proofs.ExactRows.{cosine_row}
use Rattle.av1_itx.proofs.Passes.{input_alone, input_in, row_is, taken-none, taken-past}
use Rattle.av1_itx.proofs.Sizes.{sides}

-- f 0, f 1, .. with no value but the first
pub first_alone : (n : ℕ) (f : ℕ → ℤ) → ((i : ℕ) → 0 < i → i < n → f i ≡ pos 0) → IsSingle (by_index n f)
first_alone n f none = record {
  rest = λ i some. elim (cases_lt i n) [
    | inl lt ↦ at-by_index n f i lt ∙ none i some lt
    | inr past ↦ get_or_past (by_index n f) i (pos 0) (omega (arith, length-by_index n f))
  ];
}

-- the cosine transform of such a list, which is that of its first value
pub alone_is : (range k n r : ℕ) (f : ℕ → ℤ) → ((i : ℕ) → 0 < i → i < n → f i ≡ pos 0) → n ≡ 2 * 2 ^ k → 1 ≤ k → r < n →
    at (cosine range k (by_index n f)) r ≡ clamp_value (half_btf (pos 2896) (f 0) (pos 0) (f 0)) range
alone_is range k n r f none power some lt =
    single range k (by_index n f) (first_alone n f none) some r (omega (arith, lt, power))
    ∙ ap (λ v. clamp_value (half_btf (pos 2896) v (pos 0) v) range) (at-by_index n f 0 (omega (arith, lt)))

-- what the columns of a type take for a value, where its rows take the cosine transform
cosine_taken : (by_av1 : Bool) (size : TxSize) (type : TxType) (depth : ℕ) (z : ℤ) → is_cosine (row_kind type) ≡ true →
    column_value by_av1 size type depth z ≡ clamp_value (round_shift z (row_shift size)) (column_range depth)
cosine_taken false size type depth z told = refl
cosine_taken true size type depth z told =
    (elim type as
    (λ t. is_cosine (row_kind t) ≡ true → column_value true size t depth z ≡ clamp_value (round_shift z (row_shift size)) (column_range depth))
    [ WHT_WHT ↦ (λ e. absurd (let no : false ≡ true = e in cc)) | _ ↦ (λ e. refl) ]) told

-- the first row of such a block as the columns take it
top_row : (block : Block) (cs : List ℤ) (c : ℕ) → is_cosine (row_kind block.tx_type) ≡ true → ((i : ℕ) → 0 < i → at cs i ≡ pos 0) →
    0 < tx_height block.tx_size → c < tx_width block.tx_size →
    column_value block.by_av1 block.tx_size block.tx_type block.bd (at (transformed_row block.by_av1 block.tx_size block.tx_type block.bd cs 0) c)
    ≡ top_of block (at cs 0)
top_row block cs c told none high lt =
    let size = block.tx_size in
    let type = block.tx_type in
    let h = coded (tx_height size) in
    let w = tx_width size in
    let f = row_input size type block.bd cs 0 in
    let some : 0 < h = omega (arith, high) in
    let wide : 0 < coded w = omega (arith, lt) in
    let start : 0 * h + 0 ≡ 0 = omega arith in
    let first : row_value size type block.bd (at cs 0) ≡ f 0 = ap (λ p. row_value size type block.bd (at cs p)) (sym start)
    ∙ input_in size type block.bd cs 0 0 wide
    in
    let level = λ (v : ℤ). clamp_value (half_btf (pos 2896) v (pos 0) v) (row_range block.bd) in
    let row =
    alone_is (row_range block.bd) (row_power size) w c f
    (λ x hx l. (let more = le-mul_of_pos_right x some in input_alone size type block.bd cs 0 x none (omega (arith, hx, more))))
    (powers size).0 (sides size).0 lt in
    cosine_taken block.by_av1 size type block.bd _ told
    ∙ ap (λ z. clamp_value (round_shift z (row_shift size)) (column_range block.bd))
    (sym (row_is block.by_av1 size type block.bd cs 0 c some)
    ∙ sym (cosine_value (row_kind_by block.by_av1 type) (row_range block.bd) (row_power size) c (by_index w f) (level (f 0)) (cosine_row block.by_av1 type told)
    (sym row)) ∙ ap level (sym first))

-- the other rows
other_rows : (block : Block) (cs : List ℤ) (y c : ℕ) → ((i : ℕ) → 0 < i → at cs i ≡ pos 0) → 0 < y →
    column_value block.by_av1 block.tx_size block.tx_type block.bd (at (transformed_row block.by_av1 block.tx_size block.tx_type block.bd cs y) c) ≡ pos 0
other_rows block cs y c none some =
    elim (cases_lt y (coded (tx_height block.tx_size))) [
      | inl lt ↦ taken-none block.by_av1 block.tx_size block.tx_type block.bd cs y c lt
          (λ x hx. input_alone block.tx_size block.tx_type block.bd cs y x none (omega (arith, some)))
      | inr past ↦ taken-past block.by_av1 block.tx_size block.tx_type block.bd cs y c past
    ]

-- the residue of such a block
pub single_residue : (block : Block) (cs : List ℤ) (r c : ℕ) (z : ℤ) → is_cosine (row_kind block.tx_type) ≡ true →
    is_cosine (column_kind block.tx_type) ≡ true →
    ((i : ℕ) → 0 < i → at cs i ≡ pos 0) → r < tx_height block.tx_size → c < tx_width block.tx_size →
    z ≡ clamp_value (half_btf (pos 2896) (top_of block (at cs 0)) (pos 0) (top_of block (at cs 0))) (column_range block.bd) →
    round_shift z (column_shift block.tx_type) ≡ residue_by block.by_av1 block.tx_size block.tx_type block.bd cs r c
unfolding residue_by transformed_column column_network
single_residue block cs r c z rows columns none hr hc is =
    let size = block.tx_size in
    let type = block.tx_type in
    let f = λ (y : ℕ). column_value block.by_av1 size type block.bd (at (transformed_row block.by_av1 size type block.bd cs y) c) in
    let level = λ (v : ℤ). clamp_value (half_btf (pos 2896) v (pos 0) v) (column_range block.bd) in
    let column =
    alone_is (column_range block.bd) (column_power size) (tx_height size) r f (λ y hy l. other_rows block cs y c none hy)
    (powers size).1 (sides size).2 hr in
    ap (λ v. round_shift v (column_shift type))
    (cosine_value (column_kind type) (column_range block.bd) (column_power size) r (by_index (tx_height size) f) z columns
    (is ∙ ap level (sym (top_row block cs c rows none (omega (arith, hr)) hc)) ∙ sym column))
