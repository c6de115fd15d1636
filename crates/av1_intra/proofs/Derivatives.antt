-- The table of pairs of derivatives.
use Rattle.std.proofs.Common.{ℕ, zero, suc, ◌+◌, ◌-◌, ◌*◌, ◌/◌, ◌^◌, ◌<◌, ◌≤◌, ◌≡◌, Bool, true, false, not, ◌&&◌, ◌||◌, refl, ap, arith, ◌∙◌, sym, ltb, leb}
use Rattle.std.proofs.Common.{inl, inr, subst}
use Rattle.std.proofs.lemmas.Bool.Decides.{nat_tests}
use Rattle.std.proofs.lemmas.Bool.{cases_eq, cases_lt, and_parts}
use Rattle.std.proofs.Math.Nat.{mul-lt-mul_of_pos_right, mul-le-mul_left, mul-le-mul_right, mul-le-mul, le-mul_of_pos_right}
use Rattle.std.proofs.Common.{mul_assoc}
use Rattle.av1_intra.specs.Angles.{derivative, is_interpolated, ArePair}

-- whether f holds of each number below n
abbrev pub each_below : (ℕ → Bool) → ℕ → Bool
each_below f zero = true
each_below f (suc n) = f n && each_below f n

pub one_below : (f : ℕ → Bool) (n k : ℕ) → each_below f n ≡ true → k < n → f k ≡ true
one_below f zero k h l = absurd (omega arith)
one_below f (suc n) k h l =
    let a : (f n ≡ true) × (each_below f n ≡ true) = and_parts (f n) (each_below f n) h in
    elim (cases_eq k n) [
      | inl e ↦ ap f e ∙ a.0
      | inr e ↦ one_below f n k a.1 (omega arith)
    ]

abbrev fine : ℕ → Bool
fine p =
    not (is_interpolated p)
    || ((ltb p 90 && leb (derivative p) 1023)
    || (((ltb 90 p && ltb p 180)
    && ((ltb 0 (derivative (180 - p)) && ltb 0 (derivative (p - 90))) && leb (derivative (180 - p) * derivative (p - 90)) 4096
    && (leb (derivative (180 - p)) 4096 && leb (derivative (p - 90)) 4096)))
    || ((ltb 180 p && ltb p 213) && leb (derivative (270 - p)) 40)))

all_fine : each_below fine 300 ≡ true
unfolding derivative is_interpolated
all_fine = refl

-- no angle is past 212
none_far : (p : ℕ) → 213 ≤ p → is_interpolated p ≡ false
unfolding derivative is_interpolated
none_far p h = grind (arith, nat_tests)

each_fine : (p : ℕ) → is_interpolated p ≡ true → fine p ≡ true
each_fine p h =
    elim (cases_lt p 213) [
      | inl b ↦ one_below fine 300 p all_fine (omega arith)
      | inr b ↦ (let e = none_far p b in cc)
    ]

pub below_90_few : (p : ℕ) → is_interpolated p ≡ true → p < 90 → derivative p ≤ 1023
below_90_few p h a = let f = each_fine p h in grind (arith, nat_tests)

pub between_pair : (p : ℕ) → is_interpolated p ≡ true → 90 < p → p < 180 → ArePair (derivative (180 - p)) (derivative (p - 90))
between_pair p h a b =
    let f = each_fine p h in
    record {
      above = grind (arith, nat_tests);
      left = grind (arith, nat_tests);
      product = grind (arith, nat_tests);
      few_above = grind (arith, nat_tests);
      few_left = grind (arith, nat_tests);
    }

pub past_180_few : (p : ℕ) → is_interpolated p ≡ true → 180 < p → (derivative (270 - p) ≤ 40) × (p < 213)
past_180_few p h a = let f = each_fine p h in (grind (arith, nat_tests), grind (arith, nat_tests))

-- The line that misses the above side meets the left side, no lower than one place before the corner's.
pub second_branch : (i j dx dy : ℕ) → ArePair dx dy → 64 * (j + 1) < (i + 1) * dx → (j + 1) * dy < 64 * (i + 1)
second_branch i j dx dy h l =
    let a = mul-lt-mul_of_pos_right l h.left in
    let b = mul-le-mul_left (i + 1) h.product in
    let c = mul_assoc (i + 1) dx dy in
    omega arith

-- Each entry that is read lies in the side: n/64 is less than m places.
pub entry_bound : (u n k m : ℕ) → u ≤ 1 → n < 64 * m → n / 2 ^ (6 - u) + k * 2 ^ u + 1 ≤ (m + k) * 2 ^ u
entry_bound u n k m h l =
    elim (cases_eq u 0) [
      | inl e ↦ subst (λ v. n / 2 ^ (6 - v) + k * 2 ^ v + 1 ≤ (m + k) * 2 ^ v) (sym e) (omega arith)
      | inr e ↦ subst (λ v. n / 2 ^ (6 - v) + k * 2 ^ v + 1 ≤ (m + k) * 2 ^ v) (let f : 1 ≡ u = omega arith in f) (omega arith)
    ]

pub upsampled_le : (u a b : ℕ) → a ≤ b → a * 2 ^ u ≤ b * 2 ^ u
upsampled_le u a b h = mul-le-mul_right (2 ^ u) h

-- the entries that an angle between 90 and 180 reads of either side
pub above_inside : (u w i j dx dy : ℕ) → u ≤ 1 → w ≤ 64 → j < w → ArePair dx dy → (i + 1) * dx ≤ 64 * (j + 1) →
    (64 * (j + 1) - (i + 1) * dx) / 2 ^ (6 - u) + 0 * 2 ^ u + 1 ≤ w * 2 ^ u
above_inside u w i j dx dy h l q p e =
    let z = le-mul_of_pos_right (i + 1) p.above in
    let a = entry_bound u (64 * (j + 1) - (i + 1) * dx) 0 (j + 1) h (omega arith) in
    let b = upsampled_le u (j + 1 + 0) w (omega arith) in
    omega arith

pub left_inside : (u s i j dx dy : ℕ) → u ≤ 1 → s ≤ 64 → i < s → ArePair dx dy → 64 * (j + 1) < (i + 1) * dx →
    (64 * (i + 1) - (j + 1) * dy) / 2 ^ (6 - u) + 0 * 2 ^ u + 1 ≤ s * 2 ^ u
left_inside u s i j dx dy h l q p e =
    let z = le-mul_of_pos_right (j + 1) p.left in
    let a = entry_bound u (64 * (i + 1) - (j + 1) * dy) 0 (i + 1) h (omega arith) in
    let b = upsampled_le u (i + 1 + 0) s (omega arith) in
    omega arith

-- and those of an angle past 180
pub past_inside : (u w s i j dy : ℕ) → u ≤ 1 → i < s → j < w → dy ≤ 40 → ((j + 1) * dy + 64) / 2 ^ (6 - u) + i * 2 ^ u + 1 ≤ (w + s) * 2 ^ u
past_inside u w s i j dy h l q e =
    let z : (j + 1) * dy ≤ w * 40 = mul-le-mul (omega arith) e in
    let a = entry_bound u ((j + 1) * dy + 64) i (w + 1) h (omega arith) in
    let b = upsampled_le u (w + 1 + i) (w + s) (omega arith) in
    omega arith

-- where the line of a column meets the left side, at an angle past 180
pub line_few : (j w dy : ℕ) → j < w → w ≤ 64 → dy ≤ 40 → (j + 1) * dy ≤ 2560
line_few j w dy l few small =
    let z : (j + 1) * dy ≤ w * 40 = mul-le-mul (omega arith) small in omega arith

-- no angle is straight
pub past_90 : (p : ℕ) → is_interpolated p ≡ true → 90 ≤ p → 90 < p
unfolding derivative is_interpolated
past_90 p h l =
    elim (cases_eq p 90) [
      | inl e ↦ (let f : is_interpolated 90 ≡ false = refl in let g : is_interpolated p ≡ is_interpolated 90 = ap is_interpolated e
          in absurd (let k : true ≡ false = sym h ∙ g ∙ f in cc))
      | inr e ↦ omega arith
    ]

pub past_180 : (p : ℕ) → is_interpolated p ≡ true → 180 ≤ p → 180 < p
unfolding derivative is_interpolated
past_180 p h l =
    elim (cases_eq p 180) [
      | inl e ↦ (let f : is_interpolated 180 ≡ false = refl in let g : is_interpolated p ≡ is_interpolated 180 = ap is_interpolated e
          in absurd (let k : true ≡ false = sym h ∙ g ∙ f in cc))
      | inr e ↦ omega arith
    ]
