-- The rows and the columns of a block.
use Rattle.std.proofs.Common.{ℕ, Bool, true, false, cond, ltb, ◌&&◌, ◌≡◌, ◌≤◌, ◌<◌, ◌+◌, ◌*◌, ◌/◌, ◌^◌, ℤ, pos, ◌*ℤ◌, List, All, arith, ap, sym, subst, ◌∙◌}
use Rattle.std.proofs.Common.{refl}
use Rattle.std.proofs.Common.{inl, inr, length}
use Rattle.std.specs.Int.{int_shr}
use Rattle.std.proofs.lemmas.Bool.{cases_lt}
use Rattle.std.proofs.lemmas.Bool.Decides.{nat_tests}
use Rattle.std.proofs.lemmas.Nat.{pow_pos}
use Rattle.std.proofs.Math.Nat.{div-eq_of_lt}
use Rattle.std.proofs.lemmas.List.{get_or_past}
use Rattle.av1_blocks.specs.declared.transform.TxSize.{TxSize}
use Rattle.av1_blocks.specs.declared.transform.TxType.{TxType}
use Rattle.av1_blocks.specs.declared.transform.TxType.TheVariants.{WHT_WHT}
use Rattle.av1_blocks.specs.Transforms.{tx_width, tx_height, coded}
use Rattle.av1_dct.specs.Arithmetic.{at, FitsBits, clamp_value}
use Rattle.av1_dct.specs.Columns.{column_of}
use Rattle.av1_lists.specs.Lists.{by_index}
use Rattle.av1_dct.proofs.Places.{at-by_index}
use Rattle.av1_dct.proofs.Zero.{IsZero, clamp-zero, cond-zero, by_index-zero}
use Rattle.av1_frame.specs.Arithmetic.{round_shift}
use Rattle.av1_itx.specs.Kinds.{row_kind_by, column_kind}
use Rattle.av1_itx.specs.Networks.{network, network_with}
use Rattle.av1_itx.specs.Residue.{row_value, row_input, row_power, row_range, row_shift, is_two_to_one, is_lossless, transformed_row}
use Rattle.av1_itx.specs.Residue.{column_network, column_power, column_range, column_shift, column_value, transformed_column, residue_by}
use Rattle.av1_lists.proofs.Lists.{by_index-all, by_index-same, length-by_index}
use Rattle.av1_dct.proofs.Fits.{zero_fits, clamp_value-fits, all-fit}
use Rattle.av1_itx.proofs.Outputs.{network-fits}
use Rattle.av1_itx.proofs.Zeros.{network-zero, zero_line}

pub input_in : (size : TxSize) (type : TxType) (depth : ℕ) (cs : List ℤ) (r c : ℕ) → c < coded (tx_width size) →
    row_value size type depth (at cs (c * coded (tx_height size) + r)) ≡ row_input size type depth cs r c
unfolding row_input
input_in size type depth cs r c h = grind (arith, nat_tests)

pub input_past : (size : TxSize) (type : TxType) (depth : ℕ) (cs : List ℤ) (r c : ℕ) → coded (tx_width size) ≤ c → pos 0 ≡ row_input size type depth cs r c
unfolding row_input
input_past size type depth cs r c h = grind (arith, nat_tests)

row_value-zero : (size : TxSize) (type : TxType) (depth : ℕ) → row_value size type depth (pos 0) ≡ pos 0
unfolding row_value
row_value-zero size type depth = clamp-zero _ (row_range depth) (cond-zero (is_two_to_one size) _ _ refl (cond-zero (is_lossless type) _ _ refl refl))

pub input-fits : (size : TxSize) (type : TxType) (depth : ℕ) (cs : List ℤ) (r c : ℕ) → FitsBits (row_range depth) (row_input size type depth cs r c)
unfolding row_input row_value
input-fits size type depth cs r c =
    elim (ltb c (coded (tx_width size))) as
    (λ b. FitsBits (row_range depth) (cond b (row_value size type depth (at cs (c * coded (tx_height size) + r))) (pos 0)))
    [ true ↦ clamp_value-fits _ (row_range depth) (omega arith) | false ↦ zero_fits (row_range depth) ]

pub inputs-fit : (size : TxSize) (type : TxType) (depth : ℕ) (cs : List ℤ) (r : ℕ) →
    All (FitsBits (row_range depth)) (by_index (tx_width size) (row_input size type depth cs r))
inputs-fit size type depth cs r = by_index-all (FitsBits (row_range depth)) _ _ (λ c h. input-fits size type depth cs r c)

pub row_is : (by_av1 : Bool) (size : TxSize) (type : TxType) (depth : ℕ) (cs : List ℤ) (r c : ℕ) → r < coded (tx_height size) →
    at (network (row_kind_by by_av1 type) (row_range depth) (row_power size) (by_index (tx_width size) (row_input size type depth cs r))) c ≡
    at (transformed_row by_av1 size type depth cs r) c
unfolding transformed_row
row_is by_av1 size type depth cs r c h = grind (arith, nat_tests)

pub row_past : (by_av1 : Bool) (size : TxSize) (type : TxType) (depth : ℕ) (cs : List ℤ) (r c : ℕ) → coded (tx_height size) ≤ r →
    at (transformed_row by_av1 size type depth cs r) c ≡ pos 0
unfolding transformed_row
row_past by_av1 size type depth cs r c h = grind (arith, nat_tests)

pub row-fits : (by_av1 : Bool) (size : TxSize) (type : TxType) (depth : ℕ) (cs : List ℤ) (r c : ℕ) → depth ≤ 12 →
    FitsBits 24 (at (transformed_row by_av1 size type depth cs r) c)
row-fits by_av1 size type depth cs r c h =
    let P : ℤ → Type 0 = λ z. FitsBits 24 z in
    elim (cases_lt r (coded (tx_height size))) [
      | inl b ↦ subst P (row_is by_av1 size type depth cs r c b)
          (network-fits (row_kind_by by_av1 type) (row_range depth) (row_power size) _ (omega arith)
          (all-fit (row_range depth) 20 _ (omega arith) (inputs-fit size type depth cs r)) c)
      | inr b ↦ subst P (sym (row_past by_av1 size type depth cs r c b)) (zero_fits 24)
    ]

-- the columns of values of so many bits
pub column-fits : (size : TxSize) (type : TxType) (bits : ℕ) (buf : List ℤ) (r c : ℕ) → bits ≤ 20
    → ((y : ℕ) → y < tx_height size → FitsBits bits (at buf (y * tx_width size + c)))
    → FitsBits 24 (at (network (column_kind type) bits (column_power size) (column_of (tx_height size) (tx_width size) c buf)) r)
column-fits size type bits buf r c h fit =
    network-fits (column_kind type) bits (column_power size) _ h (all-fit bits 20 _ h (by_index-all (FitsBits bits) _ _ fit)) r

-- the transform of a lossless block's columns has no range
column_by : (by_av1 : Bool) (type : TxType) (depth k : ℕ) (x : List ℤ) →
    network (column_kind type) (cond (by_av1 && is_lossless type) 20 (column_range depth)) k x ≡ network (column_kind type) (column_range depth) k x
unfolding network_with
column_by false type depth k x = refl
column_by true type depth k x =
    elim type as
    (λ t. network (column_kind t) (cond (true && is_lossless t) 20 (column_range depth)) k x ≡ network (column_kind t) (column_range depth) k x)
    [ WHT_WHT ↦ refl | _ ↦ refl ]

-- both passes
pub residue_is : (by_av1 : Bool) (size : TxSize) (type : TxType) (depth : ℕ) (cs buf : List ℤ) (r c : ℕ) (z : ℤ)
    → z ≡ at (network (column_kind type) (cond (by_av1 && is_lossless type) 20 (column_range depth)) (column_power size)
    (column_of (tx_height size) (tx_width size) c buf)) r
    → ((y : ℕ) → y < tx_height size → at buf (y * tx_width size + c) ≡
    column_value by_av1 size type depth (at (transformed_row by_av1 size type depth cs y) c))
    → round_shift z (column_shift type) ≡ residue_by by_av1 size type depth cs r c
unfolding residue_by transformed_column column_network
residue_is by_av1 size type depth cs buf r c z is h =
    ap (λ v. round_shift v (column_shift type))
    (is ∙ ap (λ zs. at zs r) (column_by by_av1 type depth (column_power size) _)
    ∙ ap (λ zs. at (network (column_kind type) (column_range depth) (column_power size) zs) r) (by_index-same _ _ _ h))

-- a coefficient by how its block is scaled
pub row_value-is : (size : TxSize) (type : TxType) (depth : ℕ) (t l : Bool) (v z : ℤ) → t ≡ is_two_to_one size → l ≡ is_lossless type →
    z ≡ clamp_value (cond t (round_shift (pos 2896 *ℤ v) 12) (cond l (int_shr v 2) v)) (row_range depth) → z ≡ row_value size type depth v
unfolding row_value
row_value-is size type depth t l v z et el is =
    is ∙ ap (λ b. clamp_value (cond b (round_shift (pos 2896 *ℤ v) 12) (cond l (int_shr v 2) v)) (row_range depth)) et
    ∙ ap (λ b. clamp_value (cond (is_two_to_one size) (round_shift (pos 2896 *ℤ v) 12) (cond b (int_shr v 2) v)) (row_range depth)) el

half_below : (n : ℕ) → 0 < n → 0 + n / 2 < n
half_below n h = omega arith

pub shifted-zero : (z : ℤ) (b : ℕ) → z ≡ pos 0 → round_shift z b ≡ pos 0
shifted-zero z b h =
    let some = pow_pos b in
    let small : (0 + 2 ^ b / 2) / 2 ^ b ≡ 0 = div-eq_of_lt (half_below (2 ^ b) some) in
    ap (λ y. round_shift y b) h ∙ ap pos small

-- what a column takes for 0
pub taken-zero : (by_av1 : Bool) (size : TxSize) (type : TxType) (depth : ℕ) (z : ℤ) → z ≡ pos 0 → column_value by_av1 size type depth z ≡ pos 0
taken-zero by_av1 size type depth z none =
    let shifted = shifted-zero z (row_shift size) none in
    cond-zero (by_av1 && is_lossless type) _ _ shifted (clamp-zero _ (column_range depth) shifted)

-- past the last row of coefficients
pub taken-past : (by_av1 : Bool) (size : TxSize) (type : TxType) (depth : ℕ) (cs : List ℤ) (r c : ℕ) → coded (tx_height size) ≤ r →
    column_value by_av1 size type depth (at (transformed_row by_av1 size type depth cs r) c) ≡ pos 0
taken-past by_av1 size type depth cs r c past = taken-zero by_av1 size type depth _ (row_past by_av1 size type depth cs r c past)

-- a row of zeros
pub taken-none : (by_av1 : Bool) (size : TxSize) (type : TxType) (depth : ℕ) (cs : List ℤ) (r c : ℕ) → r < coded (tx_height size) →
    ((x : ℕ) → x < tx_width size → row_input size type depth cs r x ≡ pos 0)
    → column_value by_av1 size type depth (at (transformed_row by_av1 size type depth cs r) c) ≡ pos 0
taken-none by_av1 size type depth cs r c lt none =
    let w = tx_width size in
    let f = row_input size type depth cs r in
    let zeros = zero_line (by_index w f) (λ x hx. let h : x < w = omega (arith, hx, length-by_index w f) in at-by_index w f x h ∙ none x h) in
    let n = network-zero (row_kind_by by_av1 type) (row_range depth) (row_power size) (by_index w f) zeros in
    taken-zero by_av1 size type depth _ (sym (row_is by_av1 size type depth cs r c lt) ∙ n.at c)

input-zero : (size : TxSize) (type : TxType) (depth : ℕ) (cs : List ℤ) (r c : ℕ) → IsZero cs → row_input size type depth cs r c ≡ pos 0
unfolding row_input
input-zero size type depth cs r c z =
    cond-zero (ltb c (coded (tx_width size))) _ _ (ap (row_value size type depth) (z.at _) ∙ row_value-zero size type depth) refl

-- an input past the coefficients that are given
pub input_none : (size : TxSize) (type : TxType) (depth : ℕ) (cs : List ℤ) (r c : ℕ) → length cs ≤ c * coded (tx_height size) + r →
    row_input size type depth cs r c ≡ pos 0
unfolding row_input
input_none size type depth cs r c past =
    cond-zero (ltb c (coded (tx_width size))) _ _
    (ap (row_value size type depth) (get_or_past cs (c * coded (tx_height size) + r) (pos 0) past) ∙ row_value-zero size type depth) refl

-- an input of a block that has no coefficient but its first
pub input_alone : (size : TxSize) (type : TxType) (depth : ℕ) (cs : List ℤ) (r c : ℕ) → ((i : ℕ) → 0 < i → at cs i ≡ pos 0) →
    0 < c * coded (tx_height size) + r → row_input size type depth cs r c ≡ pos 0
unfolding row_input
input_alone size type depth cs r c none some =
    cond-zero (ltb c (coded (tx_width size))) _ _ (ap (row_value size type depth) (none _ some) ∙ row_value-zero size type depth) refl

row-zero : (by_av1 : Bool) (size : TxSize) (type : TxType) (depth : ℕ) (cs : List ℤ) (r c : ℕ) → IsZero cs →
    at (transformed_row by_av1 size type depth cs r) c ≡ pos 0
row-zero by_av1 size type depth cs r c z =
    elim (cases_lt r (coded (tx_height size))) [
      | inl b ↦ (let n = network-zero (row_kind_by by_av1 type) (row_range depth) (row_power size) (by_index (tx_width size) (row_input size type depth cs r))
          (by_index-zero _ _ (λ x. input-zero size type depth cs r x z)) in sym (row_is by_av1 size type depth cs r c b) ∙ n.at c)
      | inr b ↦ row_past by_av1 size type depth cs r c b
    ]

-- the residue of coefficients that are all zero
pub residue-zero : (by_av1 : Bool) (size : TxSize) (type : TxType) (depth : ℕ) (cs : List ℤ) (r c : ℕ) → All (λ z. z ≡ pos 0) cs →
    residue_by by_av1 size type depth cs r c ≡ pos 0
unfolding residue_by transformed_column column_network
residue-zero by_av1 size type depth cs r c h =
    let z = zero_line cs (λ i l. h i (pos 0) l) in
    let n = network-zero (column_kind type) (column_range depth)
    (column_power size) _
    (by_index-zero (tx_height size) _ (λ y. taken-zero by_av1 size type depth _ (row-zero by_av1 size type depth cs y c z))) in
    shifted-zero _ (column_shift type) (n.at r)

-- the residue is that of any coefficients that are the same at all places
input-same : (size : TxSize) (type : TxType) (depth : ℕ) (xs ys : List ℤ) → ((i : ℕ) → at xs i ≡ at ys i) → (r c : ℕ) →
    row_input size type depth xs r c ≡ row_input size type depth ys r c
unfolding row_input
input-same size type depth xs ys same r c =
    ap (λ z. cond (ltb c (coded (tx_width size))) (row_value size type depth z) (pos 0)) (same (c * coded (tx_height size) + r))

row-same : (by_av1 : Bool) (size : TxSize) (type : TxType) (depth : ℕ) (xs ys : List ℤ) → ((i : ℕ) → at xs i ≡ at ys i) → (r c : ℕ) →
    at (transformed_row by_av1 size type depth xs r) c ≡ at (transformed_row by_av1 size type depth ys r) c
row-same by_av1 size type depth xs ys same r c =
    elim (cases_lt r (coded (tx_height size))) [
      | inl b ↦ sym (row_is by_av1 size type depth xs r c b)
          ∙ ap (λ zs. at (network (row_kind_by by_av1 type) (row_range depth) (row_power size) zs) c)
          (by_index-same (tx_width size) _ _ (λ x hx. input-same size type depth xs ys same r x)) ∙ row_is by_av1 size type depth ys r c b
      | inr b ↦ row_past by_av1 size type depth xs r c b ∙ sym (row_past by_av1 size type depth ys r c b)
    ]

pub residue-same : (by_av1 : Bool) (size : TxSize) (type : TxType) (depth : ℕ) (xs ys : List ℤ) → ((i : ℕ) → at xs i ≡ at ys i) → (r c : ℕ) →
    residue_by by_av1 size type depth xs r c ≡ residue_by by_av1 size type depth ys r c
unfolding residue_by transformed_column column_network
residue-same by_av1 size type depth xs ys same r c =
    ap (λ zs. round_shift (at (network (column_kind type) (column_range depth) (column_power size) zs) r) (column_shift type))
    (by_index-same (tx_height size) _ _
    (λ y hy. ap (column_value by_av1 size type depth) (row-same by_av1 size type depth xs ys same y c)))
