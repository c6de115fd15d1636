-- The transform of a list that has no value but its first: the clamped product of that by the square root of one half, at each place.
use Rattle.std.proofs.Common.{ℕ, zero, suc, ◌≡◌, ◌+◌, ◌-◌, ◌*◌, ◌^◌, ◌<◌, ◌≤◌, ℤ, pos, neg_ℤ, ◌+ℤ◌, ◌-ℤ◌, ◌*ℤ◌, List, [], ◌∷◌, arith, ap, ◌∙◌, inl, inr}
use Rattle.std.specs.Int.{int_shr}
use Rattle.std.proofs.lemmas.Bool.{cases_lt}
use Rattle.std.proofs.lemmas.Int.{ints}
use Rattle.std.proofs.lemmas.List.{get_or_past}
use Rattle.std.proofs.Math.Nat.{pow-suc}
use Rattle.av1_dct.specs.Arithmetic.{at, clamp_value, wrap32}
use Rattle.av1_dct.specs.Operations.{half_btf, half_btf_with}
use Rattle.av1_dct.specs.Cosine.{cos128, evens, odds, odd_half, cosine, cosine_with}
use Rattle.av1_dct.proofs.Fits.{clamp_value-fits, clamped_same}
use Rattle.av1_dct.proofs.Folding.{differences, sums}
use Rattle.av1_dct.proofs.Places.{at-by_index}
use Rattle.av1_dct.proofs.Zero.{by_index-zero, odd_half-zero}
use Rattle.av1_lists.proofs.Lists.{length-by_index}

-- each place but the first reads 0
pub record IsSingle (v : List ℤ) : Type 0 where
  pub rest : (i : ℕ) → 0 < i → at v i ≡ pos 0

-- the product
abbrev pub level : ℤ → ℤ
level z = half_btf (pos 2896) z (pos 0) z

nothing_more : (z w1 : ℤ) → pos 2896 *ℤ z +ℤ w1 *ℤ pos 0 +ℤ pos 2048 ≡ pos 2896 *ℤ z +ℤ pos 0 *ℤ z +ℤ pos 2048
nothing_more z w1 = omega (arith, ints)

turned : (w1 z b : ℤ) → b ≡ pos 0 → half_btf (cos128 32) z w1 b ≡ level z
unfolding half_btf_with cos128
turned w1 z b h = ap (λ y. int_shr (wrap32 (pos 2896 *ℤ z +ℤ w1 *ℤ y +ℤ pos 2048)) 12) h ∙ ap (λ y. int_shr (wrap32 y) 12) (nothing_more z w1)

two_alike : (x y e : ℤ) → x ≡ e → y ≡ e → (i : ℕ) → i < 2 → at (x ∷ y ∷ []) i ≡ e
two_alike x y e hx hy zero h = hx
two_alike x y e hx hy (suc zero) h = hy
two_alike x y e hx hy (suc (suc i)) h = absurd (omega (arith, h))

evens-single : (m : ℕ) (x : List ℤ) → IsSingle x → IsSingle (evens m x)
evens-single m x s = record {
  rest = λ i some. elim (cases_lt i m) [
    | inl h ↦ at-by_index m (λ k. at x (2 * k)) i h ∙ s.rest (2 * i) (omega arith)
    | inr h ↦ get_or_past (evens m x) i (pos 0) (omega (arith, length-by_index m (λ k. at x (2 * k))))
  ];
}

evens-first : (m : ℕ) (x : List ℤ) → 0 < m → at (evens m x) 0 ≡ at x 0
evens-first m x h = at-by_index m (λ k. at x (2 * k)) 0 h

two : (range : ℕ) (x : List ℤ) → IsSingle x → (i : ℕ) → i < 2 → at (cosine range 0 x) i ≡ level (at x 0)
unfolding cosine_with
two range x s i h = two_alike _ _ _ (turned (cos128 32) (at x 0) (at x 1) (s.rest 1 (omega arith)))
    (turned (neg_ℤ (cos128 32)) (at x 0) (at x 1) (s.rest 1 (omega arith))) i h

-- from a transform to that of twice as many values
step : (range k : ℕ) (x : List ℤ) (e : ℤ) → IsSingle x → ((i : ℕ) → i < 2 ^ suc k → at (cosine range k (evens (2 ^ suc k) x)) i ≡ e) →
    (i : ℕ) → i < 2 * 2 ^ suc k → at (cosine range (suc k) x) i ≡ clamp_value e range
step range k x e s even i h =
    let m = 2 ^ suc k in
    let none = odd_half-zero range k (odds m x) (by_index-zero m _ (λ q. s.rest (2 * q + 1) (omega arith))) in
    elim (cases_lt i m) [
      | inl l ↦ (let a = even i l in let b = none.at (m - 1 - i) in
          let is : at (cosine range k (evens m x)) i +ℤ at (odd_half range k (odds m x)) (m - 1 - i) ≡ e = omega (arith, ints, a, b) in
          sums range k i x l ∙ ap (λ z. clamp_value z range) is)
      | inr l ↦ (let j = 2 * m - 1 - i in
          let below : j < m = omega arith in
          let back : i ≡ 2 * m - 1 - j = omega arith in
          let a = even j below in let b = none.at (m - 1 - j) in
          let is : at (cosine range k (evens m x)) j -ℤ at (odd_half range k (odds m x)) (m - 1 - j) ≡ e = omega (arith, ints, a, b) in
          ap (at (cosine range (suc k) x)) back ∙ differences range k j x below ∙ ap (λ z. clamp_value z range) is)
    ]

single_more : (range k : ℕ) (x : List ℤ) → IsSingle x → (i : ℕ) → i < 2 * 2 ^ suc k → at (cosine range (suc k) x) i ≡ clamp_value (level (at x 0)) range
single_more range zero x s i h =
    step range 0 x (level (at x 0)) s (λ j l. two range (evens 2 x) (evens-single 2 x s) j l ∙ ap level (evens-first 2 x (omega arith))) i h
single_more range (suc k) x s i h =
    let m = 2 ^ suc (suc k) in
    let z = level (at x 0) in
    step range (suc k) x (clamp_value z range) s
    (λ j l. single_more range k (evens m x) (evens-single m x s) j (omega (arith, l, pow-suc 2 (suc k)))
    ∙ ap (λ y. clamp_value (level y) range) (evens-first m x (omega (arith, l)))) i h
    ∙ clamped_same range _ (clamp_value-fits z range (omega arith))

pub single : (range k : ℕ) (x : List ℤ) → IsSingle x → 1 ≤ k → (i : ℕ) → i < 2 * 2 ^ k → at (cosine range k x) i ≡ clamp_value (level (at x 0)) range
single range zero x s some i h = absurd (omega (arith, some))
single range (suc k) x s some i h = single_more range k x s i h
