-- Step 3 of the cosine transform, at one place: which of the four rotations it is.
use Rattle.std.proofs.Common.{ℕ, true, ◌≡◌, ◌+◌, ◌-◌, ◌*◌, ◌/◌, ◌%◌, ◌^◌, ◌<◌, ◌≤◌, ◌||◌, nat_lt, nat_le, min, ℤ, List, arith, ap, sym, ◌∙◌, inl, inr, get_or}
use Rattle.std.proofs.Common.{pow-add}
use Rattle.std.proofs.lemmas.Bool.Decides.{nat_tests}
use Rattle.std.proofs.lemmas.Bool.{cases_lt}
use Rattle.std.proofs.lemmas.Nat.{shl-shr, pow_pos}
use Rattle.std.proofs.Math.Pow.{pow_mono}
use Rattle.std.proofs.Math.Nat.{mul-le-mul_left}
use Rattle.av1_dct.specs.Arithmetic.{at}
use Rattle.av1_dct.specs.Cosine.{brev, inner_turn, inner_turn_with}
use Rattle.av1_dct.specs.declared.weights.TheConstants.{REVERSED}
use Rattle.av1_dct.proofs.Tables.{REVERSED_is, brev-lt, brev-add}

pub four : (j : ℕ) → 2 ^ (j + 2) ≡ 4 * 2 ^ j
four j = omega (arith, pow-add 2 j 2)

pub inner-same : (k j : ℕ) (v : List ℤ) (p r i : ℕ) → min i (2 ^ k - 1 - i) ≡ p → r ≡ p % (4 * 2 ^ j) → (nat_lt r (2 ^ j) || nat_le (3 * 2 ^ j) r) ≡ true →
    at v i ≡ inner_turn k j v i
unfolding inner_turn_with
inner-same k j v p r i hp hr t = grind (arith, nat_tests)

-- the unit of an angle of step 3: u = 2^(7 - (k - j)), and 4u * 2^(k - j - 3) = 64
unit_is : (k j : ℕ) → j + 2 ≤ k → k ≤ 5 → (128 / 2 ^ (k - j) ≡ 2 ^ (7 + j - k)) × (128 * 2 ^ j / 2 ^ k ≡ 2 ^ (7 + j - k))
unit_is k j hj hk =
    let whole : 2 ^ (7 + j - k) * 2 ^ (k - j) ≡ 128 = sym (pow-add 2 (7 + j - k) (k - j)) ∙ ap (λ n. 2 ^ n) (let e : 7 + j - k + (k - j) ≡ 7 = omega arith in e)
    in
    let more : 128 * 2 ^ j ≡ 2 ^ (7 + j - k) * 2 ^ k = sym (pow-add 2 7 j) ∙ ap (λ n. 2 ^ n) (let e : 7 + j ≡ 7 + j - k + k = omega arith in e)
    ∙ pow-add 2 (7 + j - k) k in
    (ap (λ n. n / 2 ^ (k - j)) (sym whole) ∙ shl-shr (2 ^ (7 + j - k)) (k - j), ap (λ n. n / 2 ^ k) more ∙ shl-shr (2 ^ (7 + j - k)) k)

small : (k j d : ℕ) → j + 2 ≤ k → k ≤ 5 → d < 2 ^ (k - j - 3) → let u = 2 ^ (7 + j - k) in (get_or REVERSED d 0 ≡ 4 * (u * brev (k - j - 3) d)) ×
    (4 * (u * brev (k - j - 3) d) + u ≤ 63) × (1 ≤ u)
unfolding brev
small k j d hj hk hd =
    let u = 2 ^ (7 + j - k) in
    let e = k - j - 3 in
    let wide : 2 ^ e ≤ 2 ^ 6 = pow_mono {i = e} {j = 6} (omega arith) in
    let table : get_or REVERSED d 0 ≡ 2 ^ (6 - e) * brev e d = REVERSED_is d (omega arith) ∙ ap (λ n. brev n d) (let s : 6 ≡ 6 - e + e = omega arith in s)
    ∙ brev-add (6 - e) e d hd in
    elim (cases_lt k (j + 3)) [
      | inl h ↦
          let none : e ≡ 0 = omega arith in
          let zero : brev e d ≡ 0 = ap (λ n. brev n d) none in
          let five : u ≡ 2 ^ 5 = ap (λ n. 2 ^ n) (let s : 7 + j - k ≡ 5 = omega arith in s) in
          (omega (arith, table, ap (λ n. 2 ^ (6 - e) * n) zero, ap (λ n. u * n) zero), omega (arith, ap (λ n. u * n) zero), omega arith)
      | inr h ↦
          let four_u : 2 ^ (6 - e) ≡ 4 * u = ap (λ n. 2 ^ n) (let s : 6 - e ≡ 2 + (7 + j - k) = omega arith in s) ∙ pow-add 2 2 (7 + j - k) in
          let full : 4 * u * 2 ^ e ≡ 64 = ap (λ n. n * 2 ^ e) (sym four_u) ∙ sym (pow-add 2 (6 - e) e)
          ∙ ap (λ n. 2 ^ n) (let s : 6 - e + e ≡ 6 = omega arith in s) in
          let some = pow_pos (7 + j - k) in
          let below = mul-le-mul_left u (brev-lt e d hd) in
          (table ∙ ap (λ n. n * brev e d) four_u ∙ omega arith, omega arith, omega arith)
    ]

pub inner_is : (k j d : ℕ) → j + 2 ≤ k → k ≤ 5 → d < 2 ^ (k - j - 3) →
    get_or REVERSED d 0 + 128 / 2 ^ (k - j) ≡ 128 * 2 ^ j / 2 ^ k * (4 * brev (k - j - 3) d + 1)
inner_is k j d hj hk hd = let u = unit_is k j hj hk in let s = small k j d hj hk hd in rw (u.0, u.1, s.0) (omega arith)

pub inner_bounds : (k j d : ℕ) → j + 2 ≤ k → k ≤ 5 → d < 2 ^ (k - j - 3) →
    (1 ≤ get_or REVERSED d 0 + 128 / 2 ^ (k - j)) × (get_or REVERSED d 0 + 128 / 2 ^ (k - j) ≤ 63)
inner_bounds k j d hj hk hd = let u = (unit_is k j hj hk).0 in let s = small k j d hj hk hd in (omega arith, omega arith)
