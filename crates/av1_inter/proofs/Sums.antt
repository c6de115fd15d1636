-- Sums of weighted values, as the machine forms them, and how great they are.
use Rattle.std.proofs.Common.{ℕ, zero, suc, ◌+◌, ◌-◌, ◌*◌, ◌%◌, ◌^◌, ◌<◌, ◌≤◌, ◌≡◌, ◌∙◌, ap, refl, arith, ℤ, pos, negsuc, ◌+ℤ◌, ◌*ℤ◌}
use Rattle.std.proofs.Common.{neg_ℤ, ◌≤ℤ◌, List, [], ◌∷◌, length, take, w32, to_z, of_z, FitsSigned}
use Rattle.std.proofs.lemmas.Int.{ints, to_z_pos}
use Rattle.std.proofs.lemmas.Nat.{mul-le}
use Rattle.std.proofs.Math.Nat.{mod-eq_of_lt}
use Rattle.std.proofs.Math.Pow.{pow_mono}
use Rattle.av1_frame.specs.Arithmetic.{round_shift}
use Rattle.av1_inter.specs.Motion.{entry, intermediate_bits, intermediate_at, sum_to, weighted}
use Rattle.av1_inter.specs.Scaffolding.{AreZero, Between, gains, losses, IsFilter}

-- a sample, shifted to the left
pub shifted_is : (z : ℤ) (n b : ℕ) → z ≡ pos n → n < 2 ^ 16 → b ≤ 4 → to_z w32 (of_z w32 z * 2 ^ b % 4294967296) ≡ pos (n * 2 ^ b)
shifted_is z n b e h l =
    let p : 2 ^ b ≤ 2 ^ 4 = pow_mono {i = b} {j = 4} l in
    let m : n * 2 ^ b ≤ 2 ^ 16 * 2 ^ 4 = mul-le n (2 ^ b) (2 ^ 16) (2 ^ 4) (omega arith) p in
    let small : n * 2 ^ b < 4294967296 = omega arith in
    ap (λ y. to_z w32 (of_z w32 y * 2 ^ b % 4294967296)) e ∙ ap (to_z w32) (mod-eq_of_lt small) ∙ to_z_pos w32 (n * 2 ^ b) (omega arith)

-- a weight's part of the positive ones, and of the negative ones
abbrev pub gain : ℤ → ℕ
gain (pos n) = n
gain (negsuc n) = 0

abbrev pub loss : ℤ → ℕ
loss (pos n) = 0
loss (negsuc n) = suc n

pub product_between : (t v : ℤ) (a b : ℕ) → Between a b v → Between (gain t * a + loss t * b) (gain t * b + loss t * a) (t *ℤ v)
product_between (pos n) (pos m) a b h =
    let k : n * m ≤ n * b = mul-le n m n b (omega arith) (omega (arith, ints, h.high)) in
    record { low = omega (arith, ints, k); high = omega (arith, ints, k) }
product_between (pos n) (negsuc m) a b h =
    let k : n * suc m ≤ n * a = mul-le n (suc m) n a (omega arith) (omega (arith, ints, h.low)) in
    record { low = omega (arith, ints, k); high = omega (arith, ints, k) }
product_between (negsuc n) (pos m) a b h =
    let k : suc n * m ≤ suc n * b = mul-le (suc n) m (suc n) b (omega arith) (omega (arith, ints, h.high)) in
    record { low = omega (arith, ints, k); high = omega (arith, ints, k) }
product_between (negsuc n) (negsuc m) a b h =
    let k : suc n * suc m ≤ suc n * a = mul-le (suc n) (suc m) (suc n) a (omega arith) (omega (arith, ints, h.low)) in
    record { low = omega (arith, ints, k); high = omega (arith, ints, k) }

pub gains_more : (taps : List ℤ) (k : ℕ) → k < length taps → gains (take (suc k) taps) ≡ gains (take k taps) + gain (entry taps k)
gains_more [] k h = absurd (omega arith)
gains_more (pos n ∷ xs) zero h = omega arith
gains_more (negsuc n ∷ xs) zero h = refl
gains_more (pos n ∷ xs) (suc k) h = let e = gains_more xs k (omega arith) in omega (arith, e)
gains_more (negsuc n ∷ xs) (suc k) h = gains_more xs k (omega arith)

pub losses_more : (taps : List ℤ) (k : ℕ) → k < length taps → losses (take (suc k) taps) ≡ losses (take k taps) + loss (entry taps k)
losses_more [] k h = absurd (omega arith)
losses_more (pos n ∷ xs) zero h = refl
losses_more (negsuc n ∷ xs) zero h = omega arith
losses_more (pos n ∷ xs) (suc k) h = losses_more xs k (omega arith)
losses_more (negsuc n ∷ xs) (suc k) h = let e = losses_more xs k (omega arith) in omega (arith, e)

pub gains_part : (taps : List ℤ) (k : ℕ) → gains (take k taps) ≤ gains taps
gains_part taps zero = omega arith
gains_part [] (suc k) = omega arith
gains_part (pos n ∷ xs) (suc k) = let e = gains_part xs k in omega (arith, e)
gains_part (negsuc n ∷ xs) (suc k) = gains_part xs k

pub losses_part : (taps : List ℤ) (k : ℕ) → losses (take k taps) ≤ losses taps
losses_part taps zero = omega arith
losses_part [] (suc k) = omega arith
losses_part (pos n ∷ xs) (suc k) = losses_part xs k
losses_part (negsuc n ∷ xs) (suc k) = let e = losses_part xs k in omega (arith, e)

-- two bounds that are added
both_between : (G g L l a b : ℕ) (s p : ℤ) → Between (G * a + L * b) (G * b + L * a) s → Between (g * a + l * b) (g * b + l * a) p →
    Between ((G + g) * a + (L + l) * b) ((G + g) * b + (L + l) * a) (s +ℤ p)
both_between G g L l a b s p h k =
    let low : (G + g) * a + (L + l) * b ≡ (G * a + L * b) + (g * a + l * b) = grind arith in
    let high : (G + g) * b + (L + l) * a ≡ (G * b + L * a) + (g * b + l * a) = grind arith in
    record { low = omega (arith, ints, low, h.low, k.low); high = omega (arith, ints, high, h.high, k.high) }

-- the first terms of a sum
pub partial_between : (taps : List ℤ) (value : ℕ → ℤ) (a b k : ℕ) → k ≤ length taps → ((t : ℕ) → t < length taps → Between a b (value t)) →
    Between (gains (take k taps) * a + losses (take k taps) * b) (gains (take k taps) * b + losses (take k taps) * a)
    (sum_to k (λ t. entry taps t *ℤ value t))
unfolding sum_to
partial_between taps value a b zero h v = record { low = omega (arith, ints); high = omega (arith, ints) }
partial_between taps value a b (suc k) h v =
    let s = both_between _ _ _ _ a b _ _ (partial_between taps value a b k (omega arith) v)
    (product_between (entry taps k) (value k) a b (v k (omega arith))) in
    rw (gains_more taps k (omega arith), losses_more taps k (omega arith)) s

pub fits_of : (z : ℤ) → neg_ℤ (pos (2 ^ 30)) ≤ℤ z → z ≤ℤ pos (2 ^ 30) → FitsSigned w32 z
fits_of (pos n) l h = record { sfits = omega (arith, ints, h) }
fits_of (negsuc n) l h = record { sfits = omega (arith, ints, l) }

-- a filter's sums, also of its first taps alone, over values from -a to b
pub filter_between : (taps : List ℤ) (value : ℕ → ℤ) (a b k : ℕ) → IsFilter taps → k ≤ 8 → ((t : ℕ) → t < 8 → Between a b (value t)) →
    Between (184 * a + 56 * b) (184 * b + 56 * a) (sum_to k (λ t. entry taps t *ℤ value t))
filter_between taps value a b k f h v =
    let s = partial_between taps value a b k (omega (arith, f.size)) (λ t l. v t (omega (arith, f.size))) in
    let g : gains (take k taps) ≤ 184 = omega (arith, gains_part taps k, f.gains) in
    let l : losses (take k taps) ≤ 56 = omega (arith, losses_part taps k, f.losses) in
    let ga = mul-le _ a 184 a g (omega arith) in
    let gb = mul-le _ b 184 b g (omega arith) in
    let la = mul-le _ a 56 a l (omega arith) in
    let lb = mul-le _ b 56 b l (omega arith) in
    record { low = omega (arith, ints, s.low, ga, lb); high = omega (arith, ints, s.high, gb, la) }

-- sums of numbers from 0 to `greatest` by these eight weights, or by the first of them, fit 16 bits
pub record SumsFit (weights : List ℤ) (greatest : ℕ) : Type 0 where
  pub size : length weights ≡ 8
  pub gains : gains weights * greatest ≤ 32767
  pub losses : losses weights * greatest ≤ 32767

-- sums by small weights, also of the first terms alone, over numbers up to n
pub small_sum : (weights : List ℤ) (value : ℕ → ℤ) (n k : ℕ) → SumsFit weights n → k ≤ 8 → ((t : ℕ) → t < 8 → Between 0 n (value t)) →
    Between 32767 32767 (sum_to k (λ t. entry weights t *ℤ value t))
small_sum weights value n k f h v =
    let s = partial_between weights value 0 n k (omega (arith, f.size)) (λ t l. v t (omega (arith, f.size))) in
    let g : gains (take k weights) * n ≤ gains weights * n = mul-le _ n _ n (gains_part weights k) (omega arith) in
    let l : losses (take k weights) * n ≤ losses weights * n = mul-le _ n _ n (losses_part weights k) (omega arith) in
    record { low = omega (arith, ints, s.low, l, f.losses); high = omega (arith, ints, s.high, g, f.gains) }

pub next_is : (term : ℕ → ℤ) (t : ℕ) (z s p : ℤ) → z ≡ s +ℤ p → s ≡ sum_to t term → p ≡ term t → z ≡ sum_to (t + 1) term
unfolding sum_to
next_is term t z s p e es ep =
    let n : suc t ≡ t + 1 = omega arith in
    e ∙ ap (λ u. u +ℤ p) es ∙ ap (λ u. sum_to t term +ℤ u) ep ∙ ap (λ i. sum_to i term) n

pub times_none : (v : ℤ) → pos 0 *ℤ v ≡ pos 0
times_none (pos n) = omega (arith, ints)
times_none (negsuc n) = omega (arith, ints)

nothing_more : (s p : ℤ) → p ≡ pos 0 → s ≡ s +ℤ p
nothing_more s p e = omega (arith, ints, e)

no_product : (w v : ℤ) → w ≡ pos 0 → w *ℤ v ≡ pos 0
no_product w v e = ap (λ z. z *ℤ v) e ∙ times_none v

-- a sum before its first weight that may not be 0, and behind its last
pub sum_begins : (zeros : ℕ) (halves : List ℤ) (value : ℕ → ℤ) → zeros ≤ 2 → AreZero zeros halves → pos 0 ≡ sum_to zeros (λ t. entry halves t *ℤ value t)
unfolding sum_to
sum_begins zero halves value l h = refl
sum_begins (suc zero) halves value l h = nothing_more _ _ (no_product _ _ (h 0 (omega arith)).0)
sum_begins (suc (suc zero)) halves value l h = nothing_more _ _ (no_product _ _ (h 0 (omega arith)).0) ∙ nothing_more _ _ (no_product _ _ (h 1 (omega arith)).0)
sum_begins (suc (suc (suc n))) halves value l h = absurd (omega (arith, l))

pub sum_ends : (zeros : ℕ) (halves : List ℤ) (value : ℕ → ℤ) (z : ℤ) → zeros ≤ 2 → AreZero zeros halves →
    z ≡ sum_to (8 - zeros) (λ t. entry halves t *ℤ value t) → z ≡ weighted halves value
unfolding sum_to
sum_ends zero halves value z l h e = e
sum_ends (suc zero) halves value z l h e = e ∙ nothing_more _ _ (no_product _ _ (h 0 (omega arith)).1)
sum_ends (suc (suc zero)) halves value z l h e = e ∙ nothing_more _ _ (no_product _ _ (h 1 (omega arith)).1)
    ∙ nothing_more _ _ (no_product _ _ (h 0 (omega arith)).1)
sum_ends (suc (suc (suc n))) halves value z l h e = absurd (omega (arith, l))

-- terms that agree
pub sum_same : (n : ℕ) (f g : ℕ → ℤ) → ((t : ℕ) → t < n → f t ≡ g t) → sum_to n f ≡ sum_to n g
unfolding sum_to
sum_same zero f g h = refl
sum_same (suc n) f g h = ap (λ u. u +ℤ f n) (sum_same n f g (λ t l. h t (omega arith))) ∙ ap (λ u. sum_to n g +ℤ u) (h n (omega arith))

pub weighted_same : (taps : List ℤ) (f g : ℕ → ℤ) → ((t : ℕ) → t < 8 → f t ≡ g t) → weighted taps f ≡ weighted taps g
weighted_same taps f g h = sum_same 8 _ _ (λ t l. ap (λ u. entry taps t *ℤ u) (h t l))

-- column c of a row depends on eight samples
pub intermediate_same : (depth fraction : ℕ) (taps : List ℤ) (f g : ℕ → ℕ) (c d : ℕ) → ((t : ℕ) → t < 8 → f (c + t) ≡ g (d + t)) →
    intermediate_at depth fraction taps f c ≡ intermediate_at depth fraction taps g d
intermediate_same depth zero taps f g c d h = ap (λ n. pos (n * 2 ^ intermediate_bits depth)) (h 3 (omega arith))
intermediate_same depth (suc k) taps f g c d h = ap (λ z. round_shift z (7 - intermediate_bits depth)) (weighted_same taps _ _ (λ t l. ap pos (h t l)))

-- the first t products of weights and values are summed
abbrev pub IsSum : ℤ → ℕ → (weights values : List ℤ) → Type 0
IsSum sum t weights values = sum ≡ sum_to t (λ i. entry weights i *ℤ entry values i)
