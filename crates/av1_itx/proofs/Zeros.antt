-- The transforms of zeros are zeros.
use Rattle.std.proofs.Common.{ℕ, zero, suc, ◌≡◌, ◌+◌, ◌-◌, ◌*◌, ◌^◌, ◌<◌, ℤ, pos, ◌+ℤ◌, ◌-ℤ◌, ◌*ℤ◌, List, [], ◌∷◌, length, reverse, arith, ap, sym, refl, ◌∙◌}
use Rattle.std.proofs.Common.{inl, inr, replicate}
use Rattle.std.specs.Int.{int_shr, int_wrap}
use Rattle.std.proofs.lemmas.Bool.{cases_lt}
use Rattle.std.proofs.lemmas.Int.{ints}
use Rattle.std.proofs.lemmas.List.{get_or_past, get_or-reverse, length-reverse, get_or-replicate, length-replicate, ext_get_or}
use Rattle.av1_dct.specs.Arithmetic.{at, round12, wrap32}
use Rattle.av1_lists.specs.Lists.{by_index}
use Rattle.av1_dct.proofs.Halves.{cosine-length}
use Rattle.av1_dct.proofs.Zero.{IsZero, half_btf-zero, clamp-zero, sum-zero, cond-zero, by_index-zero, cosine-zero}
use Rattle.av1_itx.specs.declared.kinds.TxType1D.{TxType1D}
use Rattle.av1_itx.specs.declared.kinds.TxType1D.TheVariants.{DCT, ADST, FLIPADST, IDENTITY, EXACT_IDENTITY, WHT}
use Rattle.av1_itx.specs.Adst.{adst, adst_with, adst4, adst4_with, weighted, weighted_with, turned, turned_with, adst_start, adst_start_with, adst_sum}
use Rattle.av1_itx.specs.Adst.{adst_sum_with, adst_turn_with, adst_in, adst_out, adst_out_with, adst_rounds, adst_rounds_with, adst_more, adst_more_with}
use Rattle.av1_itx.specs.Identity.{exact, scaled, scaled_with, identity_with}
use Rattle.av1_itx.specs.Walsh.{walsh, walsh_with}
use Rattle.av1_itx.specs.Networks.{HasNetwork, network, network_with}
use Rattle.av1_lists.proofs.Lists.{length-by_index}

round12-zero : (s : ℤ) → s ≡ pos 0 → round12 s ≡ pos 0
unfolding int_wrap
round12-zero s h = ap (λ z. int_shr (wrap32 (z +ℤ pos 2048)) 12) h

scaled-zero : (k : ℕ) (z : ℤ) → z ≡ pos 0 → scaled k z ≡ pos 0
unfolding scaled_with
scaled-zero zero z h = omega (arith, ints)
scaled-zero (suc zero) z h = round12-zero (pos 5793 *ℤ z) (omega (arith, ints))
scaled-zero (suc (suc zero)) z h = omega (arith, ints)
scaled-zero (suc (suc (suc zero))) z h = round12-zero (pos 11586 *ℤ z) (omega (arith, ints))
scaled-zero (suc (suc (suc (suc k)))) z h = omega (arith, ints)

no_scale : (k : ℕ) → scaled_with exact k (pos 0) ≡ pos 0
unfolding scaled_with
no_scale zero = refl
no_scale (suc zero) = refl
no_scale (suc (suc zero)) = refl
no_scale (suc (suc (suc zero))) = refl
no_scale (suc (suc (suc (suc k)))) = refl

exactly-zero : (k : ℕ) (z : ℤ) → z ≡ pos 0 → scaled_with exact k z ≡ pos 0
exactly-zero k z h = ap (scaled_with exact k) h ∙ no_scale k

four-zero : (x y z w : ℤ) → x ≡ pos 0 → y ≡ pos 0 → z ≡ pos 0 → w ≡ pos 0 → (i : ℕ) → at (x ∷ y ∷ z ∷ w ∷ []) i ≡ pos 0
four-zero x y z w hx hy hz hw zero = hx
four-zero x y z w hx hy hz hw (suc zero) = hy
four-zero x y z w hx hy hz hw (suc (suc zero)) = hz
four-zero x y z w hx hy hz hw (suc (suc (suc zero))) = hw
four-zero x y z w hx hy hz hw (suc (suc (suc (suc i)))) = refl

no_sum : (a b c d x0 x1 x2 x3 : ℤ) → x0 ≡ pos 0 → x1 ≡ pos 0 → x2 ≡ pos 0 → x3 ≡ pos 0 → a *ℤ x0 +ℤ b *ℤ x1 +ℤ c *ℤ x2 +ℤ d *ℤ x3 ≡ pos 0
no_sum a b c d x0 x1 x2 x3 h0 h1 h2 h3 =
    ap (λ z. a *ℤ z +ℤ b *ℤ x1 +ℤ c *ℤ x2 +ℤ d *ℤ x3) h0
    ∙ ap (λ z. a *ℤ pos 0 +ℤ b *ℤ z +ℤ c *ℤ x2 +ℤ d *ℤ x3) h1
    ∙ ap (λ z. a *ℤ pos 0 +ℤ b *ℤ pos 0 +ℤ c *ℤ z +ℤ d *ℤ x3) h2
    ∙ ap (λ z. a *ℤ pos 0 +ℤ b *ℤ pos 0 +ℤ c *ℤ pos 0 +ℤ d *ℤ z) h3
    ∙ omega (arith, ints)

weighted-zero : (a b c d : ℤ) (x : List ℤ) → IsZero x → weighted a b c d x ≡ pos 0
unfolding weighted_with
weighted-zero a b c d x h = round12-zero (a *ℤ at x 0 +ℤ b *ℤ at x 1 +ℤ c *ℤ at x 2 +ℤ d *ℤ at x 3) (no_sum a b c d _ _ _ _ (h.at 0) (h.at 1) (h.at 2) (h.at 3))

third-zero : (x y z : ℤ) → x ≡ pos 0 → y ≡ pos 0 → z ≡ pos 0 → pos 3344 *ℤ (x -ℤ y +ℤ z) ≡ pos 0
third-zero x y z hx hy hz = omega (arith, ints)

adst4-zero : (x : List ℤ) → IsZero x → IsZero (adst4 x)
unfolding adst4_with
adst4-zero x h =
    record {
      at = four-zero _ _ _ _ (weighted-zero _ _ _ _ x h) (weighted-zero _ _ _ _ x h)
          (round12-zero (pos 3344 *ℤ (at x 0 -ℤ at x 2 +ℤ at x 3)) (third-zero _ _ _ (h.at 0) (h.at 2) (h.at 3))) (weighted-zero _ _ _ _ x h);
    }

turned-zero : (w0 w1 : ℤ) (v : List ℤ) (i : ℕ) → IsZero v → turned w0 w1 v i ≡ pos 0
unfolding turned_with
turned-zero w0 w1 v i h = cond-zero _ _ _ (half_btf-zero _ _ _ _ (h.at _) (h.at _)) (half_btf-zero _ _ _ _ (h.at _) (h.at _))

rounds-zero : (range k c : ℕ) (v : List ℤ) → IsZero v → IsZero (adst_rounds range k c v)
unfolding adst_rounds_with adst_turn_with adst_sum_with
rounds-zero range k zero v h = h
rounds-zero range k (suc c) v h =
    let s = 2 ^ (k - c) in
    let w = rounds-zero range k c v h in
    let u = by_index-zero (2 * 2 ^ k) (adst_sum range s (adst_rounds range k c v))
    (λ p. cond-zero _ _ _ (clamp-zero _ range (sum-zero _ _ (w.at p) (w.at (p + s))).0) (clamp-zero _ range (sum-zero _ _ (w.at (p - s)) (w.at p)).1)) in
    by_index-zero _ _ (λ i. cond-zero _ _ _ (u.at i) (turned-zero _ _ _ i u))

more-zero : (range k : ℕ) (x : List ℤ) → IsZero x → IsZero (adst_more range k x)
unfolding adst_more_with adst_in adst_start_with adst_out_with
more-zero range k x h =
    let n = 2 * 2 ^ k in
    let a = by_index-zero n (adst_in n x) (λ i. cond-zero _ _ _ (h.at _) (h.at _)) in
    let b = by_index-zero n (adst_start n (by_index n (adst_in n x))) (λ i. turned-zero _ _ _ i a) in
    let c = rounds-zero range k k _ b in
    by_index-zero _ _ (λ i. cond-zero _ _ _ (c.at _) (ap (λ z. pos 0 -ℤ z) (c.at _)))

adst-zero : (range k : ℕ) (x : List ℤ) → IsZero x → IsZero (adst range k x)
unfolding adst_with
adst-zero range zero x z = more-zero range zero x z
adst-zero range (suc zero) x z = adst4-zero x z
adst-zero range (suc (suc k)) x z = more-zero range (suc (suc k)) x z

half-zero : (z : ℤ) → z ≡ pos 0 → int_shr z 1 ≡ pos 0
half-zero z h = ap (λ y. int_shr y 1) h

walsh-zero : (x : List ℤ) → IsZero x → IsZero (walsh x)
unfolding walsh_with
walsh-zero x z =
    let a0 = z.at 0 in
    let a1 = z.at 1 in
    let a2 = z.at 2 in
    let a3 = z.at 3 in
    let h = half-zero (at x 0 +ℤ at x 1 -ℤ (at x 2 -ℤ at x 3)) (omega (arith, ints, a0, a1, a2, a3)) in
    record {
      at = four-zero _ _ _ _ (omega (arith, ints, a0, a1, a2, a3, h)) (omega (arith, ints, a0, a1, a2, a3, h)) (omega (arith, ints, a0, a1, a2, a3, h))
          (omega (arith, ints, a0, a1, a2, a3, h));
    }

reverse-zero : (xs : List ℤ) → IsZero xs → IsZero (reverse xs)
reverse-zero xs z = record {
  at = λ i. elim (cases_lt i (length xs)) [
    | inl h ↦ get_or-reverse xs i (pos 0) h ∙ z.at (length xs - 1 - i)
    | inr h ↦ get_or_past (reverse xs) i (pos 0) (omega (arith, length-reverse xs))
  ];
}

pub network-zero : (kind : TxType1D) (range k : ℕ) (x : List ℤ) → IsZero x → IsZero (network kind range k x)
unfolding network_with identity_with
network-zero DCT range k x z = cosine-zero range k x z
network-zero ADST range k x z = adst-zero range k x z
network-zero FLIPADST range k x z = reverse-zero _ (adst-zero range k x z)
network-zero IDENTITY range k x z = by_index-zero _ _ (λ i. scaled-zero k _ (z.at i))
network-zero EXACT_IDENTITY range k x z = by_index-zero _ _ (λ i. exactly-zero k _ (z.at i))
network-zero WHT range k x z = walsh-zero x z

pub zero_line : (xs : List ℤ) → ((i : ℕ) → i < length xs → at xs i ≡ pos 0) → IsZero xs
zero_line xs h = record {
  at = λ i. elim (cases_lt i (length xs)) [
    | inl g ↦ h i g
    | inr g ↦ get_or_past xs i (pos 0) g
  ];
}

-- as lists of one length
no_inputs : (n : ℕ) → IsZero (replicate n (pos 0))
no_inputs n = record {
  at = λ i. elim (cases_lt i n) [
    | inl h ↦ get_or-replicate n i (pos 0) (pos 0) h
    | inr h ↦ get_or_past (replicate n (pos 0)) i (pos 0) (omega (arith, length-replicate n (pos 0)))
  ];
}

adst-length : (range k : ℕ) (x : List ℤ) → length (adst range k x) ≡ 2 * 2 ^ k
unfolding adst_with adst4_with adst_more_with
adst-length range zero x = refl
adst-length range (suc zero) x = refl
adst-length range (suc (suc k)) x = length-by_index (2 * 2 ^ (suc (suc k))) (adst_out (suc (suc k)) _)

network-length : (kind : TxType1D) (range k : ℕ) (x : List ℤ) → HasNetwork kind k → length (network kind range k x) ≡ 2 * 2 ^ k
unfolding network_with identity_with walsh_with
network-length DCT range k x h = cosine-length range k x
network-length ADST range k x h = adst-length range k x
network-length FLIPADST range k x h = length-reverse (adst range k x) ∙ adst-length range k x
network-length IDENTITY range k x h = length-by_index (2 * 2 ^ k) (λ i. scaled k (at x i))
network-length EXACT_IDENTITY range k x h = length-by_index (2 * 2 ^ k) (λ i. scaled_with exact k (at x i))
network-length WHT range k x h = ap (λ n. 2 * 2 ^ n) (sym h)

pub zeros : (kind : TxType1D) (range k : ℕ) → HasNetwork kind k → network kind range k (replicate (2 * 2 ^ k) (pos 0)) ≡ replicate (2 * 2 ^ k) (pos 0)
zeros kind range k has =
    let n = 2 * 2 ^ k in
    let none = no_inputs n in
    let out = network-zero kind range k (replicate n (pos 0)) none in
    ext_get_or (pos 0) _ _ (network-length kind range k _ has ∙ sym (length-replicate n (pos 0))) (λ i h. out.at i ∙ sym (none.at i))
