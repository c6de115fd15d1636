-- Inputs of 18 bits and a range up to 18: none of a transform's sums and products leaves 32 bits.
use Rattle.std.proofs.Common.{unsigned_abs, Bool, ◌&&◌, ◌≢◌, ℕ, zero, suc, ◌≡◌, ◌+◌, ◌-◌, ◌*◌, ◌/◌, ◌^◌, ◌≤◌, ◌%◌, ◌==◌, nat_lt, max, true, false, cond, ℤ, pos}
use Rattle.std.proofs.Common.{negsuc, ◌+ℤ◌}
use Rattle.std.proofs.Common.{◌-ℤ◌, ◌*ℤ◌, List, reverse, All, arith, ap, refl, sym, subst, ◌∙◌, inl, inr, w32, FitsSigned}
use Rattle.std.specs.Int.{int_shr}
use Rattle.std.proofs.lemmas.Bool.{cases_lt}
use Rattle.std.proofs.lemmas.Int.{ints, int_wrap_fits, unsigned_abs-mul}
use Rattle.std.proofs.Math.Nat.{mul-le-mul}
use Rattle.av1_dct.specs.Arithmetic.{AllFit, FitsBits, at, clamp_value, round12}
use Rattle.av1_dct.specs.Operations.{Operations, AreRight32}
use Rattle.av1_lists.specs.Lists.{by_index}
use Rattle.av1_dct.proofs.Fits.{all-fit, by_index-fits, clamp_value-fits, clamped_same, cond-fits, fits_wider}
use Rattle.av1_dct.proofs.NoWrap.{Weight, cos128-small, neg-small, turn-same, plus-same, minus-same, cond-same, no_wrap}
use Rattle.av1_lists.proofs.Lists.{by_index-all, by_index-same}
use Rattle.av1_blocks.specs.declared.transform.TxSize.{TxSize}
use Rattle.av1_blocks.specs.declared.transform.TxSize.TheVariants.{TX_4X4}
use Rattle.av1_blocks.specs.declared.transform.TxType.{TxType}
use Rattle.av1_blocks.specs.declared.transform.TxType.TheVariants.{WHT_WHT}
use Rattle.av1_blocks.specs.Transforms.{coded, tx_height}
use Rattle.av1_frame.specs.Arithmetic.{round_shift}
use Rattle.av1_itx.proofs.Fills.{four_same}
use Rattle.av1_itx.specs.declared.kinds.TxType1D.{TxType1D}
use Rattle.av1_itx.specs.declared.kinds.TxType1D.TheVariants.{DCT, ADST, FLIPADST, IDENTITY, EXACT_IDENTITY, WHT}
use Rattle.av1_itx.specs.Adst.{turned_with, turned, turn_weights, back_weights, start_weights, round_weights, adst_in, adst_start_with, adst_start}
use Rattle.av1_itx.specs.Adst.{adst_sum_with, adst_sum, adst_turn_with, adst_turn}
use Rattle.av1_itx.specs.Adst.{adst_rounds_with, adst_rounds, adst_out_with, adst_out, out_place, adst_more_with, adst_more, weighted_with, weighted}
use Rattle.av1_itx.specs.Adst.{adst4_with, adst4, adst_with, adst}
use Rattle.av1_itx.specs.Identity.{exact, scaled_with, scaled, identity_with}
use Rattle.av1_itx.specs.Kinds.{column_kind, exact_kind, row_kind, row_kind_by}
use Rattle.av1_itx.specs.Walsh.{walsh_with, walsh}
use Rattle.av1_itx.specs.Networks.{network_with, network}
use Rattle.av1_itx.specs.Residue.{column_input, column_network, column_power, column_range, column_shift, column_value, is_lossless, residue, residue_by}
use Rattle.av1_itx.specs.Residue.{row_power, row_range, row_shift, transformed_column, transformed_row}
use Rattle.av1_itx.proofs.Steps.{start-fits}
use Rattle.av1_itx.proofs.Outputs.{half-fits, rounds-fit}
use Rattle.av1_itx.proofs.Passes.{inputs-fit, row_is, row_past}
use Rattle.av1_itx.proofs.Unclamped.{few_fit, lossless_fits}

-- both weights of a turn are small
pub record Weights (w : ℤ × ℤ) : Type 0 where
  pub first : Weight w.0
  pub second : Weight w.1

start-small : (n p : ℕ) → Weights (start_weights n p)
start-small n p = record { first = cos128-small _; second = cos128-small _ }

round-small : (s p : ℕ) → Weights (round_weights s p)
round-small s p =
    let a = turn_weights (64 / s * (4 * p + 1)) in
    let b = back_weights (64 / s * (4 * (p - s / 4) + 1)) in
    elim (nat_lt p (max 1 (s / 4))) as (λ t. Weights (cond t a b)) [
      | true ↦ record { first = cos128-small _; second = cos128-small _ }
      | false ↦ record { first = neg-small _ (cos128-small _); second = cos128-small _ }
    ]

sums : (range s n : ℕ) (v : List ℤ) → range ≤ 18 → AllFit 18 (by_index n (adst_sum range s v))
unfolding adst_sum_with
sums range s n v h = by_index-fits {w = 18} n _ (λ i. cond-fits {w = 18} _ _ _ (clamp_value-fits {w = 18} _ range h) (clamp_value-fits {w = 18} _ range h))

placed : (n : ℕ) (x : List ℤ) (i : ℕ) → AllFit 18 x → FitsBits 18 (adst_in n x i)
unfolding adst_in
placed n x i h = cond-fits {w = 18} _ _ _ (h (n - 1 - i)) (h (i - 1))

-- a product's bound
product : (w x : ℤ) (n : ℕ) → unsigned_abs w ≤ n → FitsBits 18 x → unsigned_abs (w *ℤ x) ≤ n * 131072
product w x n h f =
    let b : unsigned_abs x ≤ 131072 = omega (arith, ints, f.low, f.high) in
    let p = mul-le-mul h b in
    omega (arith, unsigned_abs-mul w x, p)

module _ (ops : Operations) (right : AreRight32 ops) where
  turned-same : (w : ℤ × ℤ) (v : List ℤ) (i : ℕ) → Weights w → AllFit 18 v → turned_with ops w.0 w.1 v i ≡ turned w.0 w.1 v i
  unfolding turned_with
  turned-same w v i s h =
      cond-same (i % 2 == 0) _ _ _ _ (turn-same ops right _ _ _ _ s.first s.second (h i) (h (i + 1)))
      (turn-same ops right _ _ _ _ s.second (neg-small _ s.first) (h (i - 1)) (h i))

  start-same : (n : ℕ) (v : List ℤ) (i : ℕ) → AllFit 18 v → adst_start_with ops n v i ≡ adst_start n v i
  unfolding adst_start_with
  start-same n v i h = turned-same (start_weights n (i / 2)) v i (start-small n (i / 2)) h

  sum-same : (range s : ℕ) (v : List ℤ) (i : ℕ) → AllFit 20 v → adst_sum_with ops range s v i ≡ adst_sum range s v i
  unfolding adst_sum_with
  sum-same range s v i h =
      cond-same (nat_lt (i % (2 * s)) s) _ _ _ _ (ap (λ z. clamp_value z range) (plus-same ops right _ _ (h i) (h (i + s))))
      (ap (λ z. clamp_value z range) (minus-same ops right _ _ (h (i - s)) (h i)))

  turn_of-same : (s : ℕ) (v : List ℤ) (i : ℕ) → AllFit 18 v → adst_turn_with ops s v i ≡ adst_turn s v i
  unfolding adst_turn_with
  turn_of-same s v i h =
      let t = i % (2 * s) in
      cond-same (nat_lt t s) _ _ _ _ refl (turned-same (round_weights s ((t - s) / 2)) v i (round-small s ((t - s) / 2)) h)

  rounds-same : (range k c : ℕ) (v : List ℤ) → range ≤ 18 → AllFit 20 v → adst_rounds_with ops range k c v ≡ adst_rounds range k c v
  unfolding adst_rounds_with
  rounds-same range k zero v r h = refl
  rounds-same range k (suc c) v r h =
      let n = 2 * 2 ^ k in
      let s = 2 ^ (k - c) in
      let w = adst_rounds range k c v in
      ap (λ u. by_index n (adst_turn_with ops s (by_index n (adst_sum_with ops range s u)))) (rounds-same range k c v r h)
      ∙ ap (λ u. by_index n (adst_turn_with ops s u)) (by_index-same n _ _ (λ i _. sum-same range s w i (rounds-fit range k c v (omega arith) h)))
      ∙ by_index-same n _ _ (λ i _. turn_of-same s (by_index n (adst_sum range s w)) i (sums range s n w r))

  out-same : (k : ℕ) (v : List ℤ) (i : ℕ) → AllFit 20 v → adst_out_with ops k v i ≡ adst_out k v i
  unfolding adst_out_with
  out-same k v i h = let f = h (out_place k i)
      in cond-same (i % 2 == 0) _ _ _ _ refl (right.minus (pos 0) (at v (out_place k i)) (omega (arith, ints, f.low, f.high)))

  more-same : (range k : ℕ) (x : List ℤ) → range ≤ 18 → AllFit 18 x → adst_more_with ops range k x ≡ adst_more range k x
  unfolding adst_more_with
  more-same range k x r h =
      let n = 2 * 2 ^ k in
      let u = by_index n (adst_in n x) in
      let v = by_index n (adst_start n u) in
      let fit = start-fits n n u in
      ap (λ z. by_index n (adst_out_with ops k (adst_rounds_with ops range k k z)))
      (by_index-same n (adst_start_with ops n u) (adst_start n u) (λ i _. start-same n u i (by_index-fits n _ (λ p. placed n x p h))))
      ∙ ap (λ z. by_index n (adst_out_with ops k z)) (rounds-same range k k v r fit)
      ∙ by_index-same n _ _ (λ i _. out-same k (adst_rounds range k k v) i (rounds-fit range k k v (omega arith) fit))

  round-same : (s : ℤ) → FitsSigned w32 (s +ℤ pos 2048) → ops.round s ≡ round12 s
  round-same s f = right.round s f ∙ ap (λ z. int_shr z 12) (sym (int_wrap_fits w32 _ f))

  scale-same : (w x : ℤ) → unsigned_abs w ≤ 16000 → FitsBits 18 x → ops.round (ops.times w x) ≡ round12 (w *ℤ x)
  scale-same w x h f =
      let p = product w x 16000 h f in
      ap ops.round (right.times w x (omega (arith, ints))) ∙ round-same (w *ℤ x) (omega (arith, ints))

  scaled-same : (k : ℕ) (z : ℤ) → FitsBits 18 z → scaled_with ops k z ≡ scaled k z
  unfolding scaled_with
  scaled-same zero z f = right.times (pos 4) z (omega (arith, ints, f.low, f.high))
  scaled-same (suc zero) z f = scale-same (pos 5793) z (omega arith) f
  scaled-same (suc (suc zero)) z f = right.times (pos 2) z (omega (arith, ints, f.low, f.high))
  scaled-same (suc (suc (suc zero))) z f = scale-same (pos 11586) z (omega arith) f
  scaled-same (suc (suc (suc (suc k)))) z f = right.times (pos 4) z (omega (arith, ints, f.low, f.high))

  weighted-same : (a b c d : ℤ) (v : List ℤ) → unsigned_abs a + unsigned_abs b + unsigned_abs c + unsigned_abs d ≤ 16000 → AllFit 18 v →
      weighted_with ops a b c d v ≡ weighted a b c d v
  unfolding weighted_with
  weighted-same a b c d v h f =
      let x = at v 0 in
      let y = at v 1 in
      let z = at v 2 in
      let w = at v 3 in
      let pa = product a x (unsigned_abs a) (omega arith) (f 0) in
      let pb = product b y (unsigned_abs b) (omega arith) (f 1) in
      let pc = product c z (unsigned_abs c) (omega arith) (f 2) in
      let pd = product d w (unsigned_abs d) (omega arith) (f 3) in
      let ea = right.times a x (omega (arith, ints)) in
      let eb = right.times b y (omega (arith, ints)) in
      let ec = right.times c z (omega (arith, ints)) in
      let ed = right.times d w (omega (arith, ints)) in
      let e2 = right.plus (a *ℤ x) (b *ℤ y) (omega (arith, ints)) in
      let e3 = right.plus (a *ℤ x +ℤ b *ℤ y) (c *ℤ z) (omega (arith, ints)) in
      let e4 = right.plus (a *ℤ x +ℤ b *ℤ y +ℤ c *ℤ z) (d *ℤ w) (omega (arith, ints)) in
      let sum : ops.plus (ops.plus (ops.plus (ops.times a x) (ops.times b y)) (ops.times c z)) (ops.times d w) ≡ a *ℤ x +ℤ b *ℤ y +ℤ c *ℤ z +ℤ d *ℤ w =
      cc (ea, eb, ec, ed, e2, e3, e4) in
      ap ops.round sum ∙ round-same (a *ℤ x +ℤ b *ℤ y +ℤ c *ℤ z +ℤ d *ℤ w) (omega (arith, ints))

  third-same : (x y z : ℤ) → FitsBits 18 x → FitsBits 18 y → FitsBits 18 z →
      ops.round (ops.times (pos 3344) (ops.plus (ops.minus x y) z)) ≡ round12 (pos 3344 *ℤ (x -ℤ y +ℤ z))
  third-same x y z fx fy fz =
      ap (λ n. ops.round (ops.times (pos 3344) (ops.plus n z))) (right.minus x y (omega (arith, ints, fx.low, fx.high, fy.low, fy.high)))
      ∙ ap (λ n. ops.round (ops.times (pos 3344) n)) (right.plus (x -ℤ y) z (omega (arith, ints, fx.low, fx.high, fy.low, fy.high, fz.low, fz.high)))
      ∙ ap ops.round (right.times (pos 3344) (x -ℤ y +ℤ z) (omega (arith, ints, fx.low, fx.high, fy.low, fy.high, fz.low, fz.high)))
      ∙ round-same (pos 3344 *ℤ (x -ℤ y +ℤ z)) (omega (arith, ints, fx.low, fx.high, fy.low, fy.high, fz.low, fz.high))

  adst4-same : (x : List ℤ) → AllFit 18 x → adst4_with ops x ≡ adst4 x
  unfolding adst4_with
  adst4-same x h =
      four_same _ _ _ _ _ _ _ _
      (weighted-same (pos 1321) (pos 3344) (pos 3803) (pos 2482) x (omega arith) h)
      (weighted-same (pos 2482) (pos 3344) (negsuc 1320) (negsuc 3802) x (omega arith) h)
      (third-same (at x 0) (at x 2) (at x 3) (h 0) (h 2) (h 3))
      (weighted-same (pos 3803) (negsuc 3343) (pos 2482) (negsuc 1320) x (omega arith) h)

  adst-same : (range k : ℕ) (x : List ℤ) → range ≤ 18 → AllFit 18 x → adst_with ops range k x ≡ adst range k x
  unfolding adst_with
  adst-same range zero x r h = more-same range zero x r h
  adst-same range (suc zero) x r h = adst4-same x h
  adst-same range (suc (suc k)) x r h = more-same range (suc (suc k)) x r h

  walsh-same : (x : List ℤ) → AllFit 20 x → walsh_with ops x ≡ walsh x
  unfolding walsh_with
  walsh-same x f =
      let a0 = f 0 in
      let a1 = f 1 in
      let a2 = f 2 in
      let a3 = f 3 in
      let s0 = at x 0 +ℤ at x 1 in
      let s2 = at x 2 -ℤ at x 3 in
      let d : FitsBits 22 (s0 -ℤ s2) =
      record { low = omega (arith, ints, a0.low, a1.low, a2.high, a3.low); high = omega (arith, ints, a0.high, a1.high, a2.low, a3.high) } in
      let s4 = int_shr (s0 -ℤ s2) 1 in
      let b = half-fits _ d in
      let e0 = right.plus (at x 0) (at x 1) (omega (arith, ints, a0.low, a1.low, a0.high, a1.high)) in
      let e2 = right.minus (at x 2) (at x 3) (omega (arith, ints, a2.low, a3.low, a2.high, a3.high)) in
      let e4 = right.minus s0 s2 (omega (arith, ints, d.low, d.high)) in
      let e3 = right.minus s4 (at x 3) (omega (arith, ints, b.low, b.high, a3.low, a3.high)) in
      let e1 = right.minus s4 (at x 1) (omega (arith, ints, b.low, b.high, a1.low, a1.high)) in
      let first = right.minus s0 (s4 -ℤ at x 3) (omega (arith, ints, b.low, b.high, a3.low, a3.high, a0.low, a0.high, a1.low, a1.high)) in
      let last = right.plus s2 (s4 -ℤ at x 1) (omega (arith, ints, b.low, b.high, a3.low, a3.high, a2.low, a2.high, a1.low, a1.high)) in
      cc (e0, e2, e4, e3, e1, first, last)

  network-same : (kind : TxType1D) (range k : ℕ) (x : List ℤ) → range ≤ 18 → AllFit 18 x → network_with ops kind range k x ≡ network kind range k x
  unfolding network_with identity_with
  network-same DCT range k x r h = no_wrap ops right range k x r h
  network-same ADST range k x r h = adst-same range k x r h
  network-same FLIPADST range k x r h = ap reverse (adst-same range k x r h)
  network-same IDENTITY range k x r h = by_index-same (2 * 2 ^ k) _ _ (λ i _. scaled-same k (at x i) (h i))
  network-same EXACT_IDENTITY range k x r h = refl
  network-same WHT range k x r h = walsh-same x (λ i. fits_wider 18 20 _ (omega arith) (h i))

pub never_wraps : (ops : Operations) → AreRight32 ops → (kind : TxType1D) (range k : ℕ) (x : List ℤ) → range ≤ 18 → All (FitsBits 18) x →
    network_with ops kind range k x ≡ network kind range k x
never_wraps ops right kind range k x r h = network-same ops right kind range k x r (all-fit 18 18 x (omega arith) h)

-- those of the columns of a lossless block have up to 20 bits
pub walsh_never_wraps : (ops : Operations) → AreRight32 ops → (range k : ℕ) (x : List ℤ) → All (FitsBits 20) x →
    network_with ops WHT range k x ≡ network WHT range k x
unfolding network_with
walsh_never_wraps ops right range k x h = walsh-same ops right x (all-fit 20 20 x (omega arith) h)

-- what a column's transform takes where it is clamped,
pub column_inputs : (by_av1 : Bool) (size : TxSize) (type : TxType) (depth : ℕ) (f : ℕ → ℤ) → depth ≤ 12 → (by_av1 && is_lossless type) ≡ false →
    All (FitsBits 18) (column_input by_av1 size type depth f)
column_inputs by_av1 size type depth f h clamped =
    let taken = λ (b : Bool) (v : ℤ). cond b v (clamp_value v (column_range depth)) in
    by_index-all (FitsBits 18) (tx_height size) _
    (λ r l. let v = round_shift (f r) (row_shift size) in
    subst (λ b. FitsBits 18 (taken b v)) (sym clamped) (clamp_value-fits {w = 18} v (column_range depth) (omega (arith, h))))

-- and where it isn't
pub lossless_inputs : (depth : ℕ) (cs : List ℤ) (c : ℕ) → depth ≤ 12 → All (FitsBits (depth + 8)) cs →
    All (FitsBits 20) (column_input true TX_4X4 WHT_WHT depth (λ r. at (transformed_row true TX_4X4 WHT_WHT depth cs r) c))
lossless_inputs depth cs c h fit =
    by_index-all (FitsBits 20) 4 _ (λ r l. lossless_fits depth cs r c h (λ i _. all-fit (depth + 8) (depth + 8) cs (omega arith) fit i))

-- ---- identities that never wrap

right_exactly : AreRight32 exact
right_exactly = record { plus = λ x y h. refl; minus = λ x y h. refl; times = λ x y h. refl; round = λ s h. refl }

exact_same : (kind : TxType1D) (range k : ℕ) (x : List ℤ) → range ≤ 18 → AllFit 18 x → network (exact_kind kind) range k x ≡ network kind range k x
unfolding network_with
exact_same DCT range k x r h = refl
exact_same ADST range k x r h = refl
exact_same FLIPADST range k x r h = refl
exact_same IDENTITY range k x r h = network-same exact right_exactly IDENTITY range k x r h
exact_same EXACT_IDENTITY range k x r h = refl
exact_same WHT range k x r h = refl

row_same : (by_av1 : Bool) (type : TxType) (range k : ℕ) (x : List ℤ) → range ≤ 18 → AllFit 18 x →
    network (row_kind_by by_av1 type) range k x ≡ network (row_kind type) range k x
row_same true type range k x r h = exact_same (row_kind type) range k x r h
row_same false type range k x r h = refl

-- at depths up to 10 rows have such inputs, so that no identity wraps there
shallow_row : (by_av1 : Bool) (size : TxSize) (type : TxType) (depth : ℕ) (cs : List ℤ) (r c : ℕ) → depth ≤ 10 →
    at (transformed_row by_av1 size type depth cs r) c ≡ at (transformed_row false size type depth cs r) c
shallow_row by_av1 size type depth cs r c few =
    elim (cases_lt r (coded (tx_height size))) [
      | inl b ↦ sym (row_is by_av1 size type depth cs r c b)
          ∙ ap (λ zs. at zs c) (row_same by_av1 type (row_range depth) (row_power size) _ (omega (arith, few))
          (all-fit (row_range depth) 18 _ (omega (arith, few)) (inputs-fit size type depth cs r)))
          ∙ row_is false size type depth cs r c b
      | inr b ↦ row_past by_av1 size type depth cs r c b ∙ sym (row_past false size type depth cs r c b)
    ]

-- the columns of two blocks that take the same
columns_same : (by_av1 : Bool) (size : TxSize) (type : TxType) (depth : ℕ) (cs : List ℤ) (r c : ℕ)
    → ((y : ℕ) → column_value by_av1 size type depth (at (transformed_row by_av1 size type depth cs y) c)
    ≡ column_value false size type depth (at (transformed_row false size type depth cs y) c))
    → residue_by by_av1 size type depth cs r c ≡ residue size type depth cs r c
unfolding residue_by transformed_column column_network
columns_same by_av1 size type depth cs r c same =
    ap (λ zs. round_shift (at (network (column_kind type) (column_range depth) (column_power size) zs) r) (column_shift type))
    (by_index-same (tx_height size) _ _ (λ y hy. same y))

clamped_alike : (by_av1 : Bool) (size : TxSize) (type : TxType) (depth : ℕ) (z : ℤ) → type ≢ WHT_WHT →
    column_value by_av1 size type depth z ≡ column_value false size type depth z
clamped_alike false size type depth z other = refl
clamped_alike true size type depth z other =
    (elim type as (λ t. t ≢ WHT_WHT → column_value true size t depth z ≡ column_value false size t depth z)
    [ WHT_WHT ↦ (λ o. absurd (o refl)) | _ ↦ (λ o. refl) ]) other

pub shallow_residue : (by_av1 : Bool) (size : TxSize) (type : TxType) (depth : ℕ) (cs : List ℤ) (r c : ℕ) → depth ≤ 10 → type ≢ WHT_WHT →
    residue_by by_av1 size type depth cs r c ≡ residue size type depth cs r c
shallow_residue by_av1 size type depth cs r c few other =
    columns_same by_av1 size type depth cs r c (λ y. clamped_alike by_av1 size type depth _ other
    ∙ ap (column_value false size type depth) (shallow_row by_av1 size type depth cs y c few))

-- ---- lossless blocks whose coefficients have few bits

-- rows are the same by both rules: they have no identity
lossless_row : (by_av1 : Bool) (size : TxSize) (depth : ℕ) (cs : List ℤ) (r c : ℕ) →
    at (transformed_row by_av1 size WHT_WHT depth cs r) c ≡ at (transformed_row false size WHT_WHT depth cs r) c
unfolding transformed_row
lossless_row false size depth cs r c = refl
lossless_row true size depth cs r c = refl

-- and what the columns take, which needs no clamp
lossless_taken : (by_av1 : Bool) (depth : ℕ) (cs : List ℤ) (r c : ℕ) → All (FitsBits 17) cs →
    column_value by_av1 TX_4X4 WHT_WHT depth (at (transformed_row by_av1 TX_4X4 WHT_WHT depth cs r) c)
    ≡ column_value false TX_4X4 WHT_WHT depth (at (transformed_row false TX_4X4 WHT_WHT depth cs r) c)
lossless_taken false depth cs r c fit = refl
lossless_taken true depth cs r c fit =
    ap (column_value true TX_4X4 WHT_WHT depth) (lossless_row true TX_4X4 depth cs r c)
    ∙ sym (clamped_same (column_range depth) _ (fits_wider 16 (column_range depth) _ (omega arith) (few_fit depth cs r c fit)))

pub lossless_residue : (by_av1 : Bool) (depth : ℕ) (cs : List ℤ) (r c : ℕ) → All (FitsBits 17) cs →
    residue_by by_av1 TX_4X4 WHT_WHT depth cs r c ≡ residue TX_4X4 WHT_WHT depth cs r c
lossless_residue by_av1 depth cs r c fit = columns_same by_av1 TX_4X4 WHT_WHT depth cs r c (λ y. lossless_taken by_av1 depth cs y c fit)

-- residuals at depths up to 10 are the same by both rules
pub shallow_same : (by_av1 : Bool) (size : TxSize) (type : TxType) (depth : ℕ) (cs : List ℤ) (r c : ℕ) → depth ≤ 10
    → (type ≡ WHT_WHT → (size ≡ TX_4X4) × All (FitsBits 17) cs) → residue_by by_av1 size type depth cs r c ≡ residue size type depth cs r c
shallow_same by_av1 size type depth cs r c shallow few =
    (elim type as (λ t. (t ≡ WHT_WHT → (size ≡ TX_4X4) × All (FitsBits 17) cs) → residue_by by_av1 size t depth cs r c ≡ residue size t depth cs r c) [
      | WHT_WHT ↦ (λ told. subst (λ s. residue_by by_av1 s WHT_WHT depth cs r c ≡ residue s WHT_WHT depth cs r c) (sym (told refl).0)
          (lossless_residue by_av1 depth cs r c (told refl).1))
      | _ ↦ (λ told. shallow_residue by_av1 size _ depth cs r c shallow (λ e. let absent : false ≡ true = ap is_lossless e in cc))
    ]) few
