-- A filter keeps a sample that all its weights see.
use Rattle.std.proofs.Common.{ℕ, zero, suc, ◌+◌, ◌-◌, ◌*◌, ◌^◌, ◌<◌, ◌≤◌, ◌≡◌, ◌∙◌, ap, arith, ℤ, pos, negsuc, ◌+ℤ◌, ◌-ℤ◌, ◌*ℤ◌, List, length, take}
use Rattle.std.proofs.Common.{inl, inr}
use Rattle.std.proofs.lemmas.Int.{ints}
use Rattle.std.proofs.lemmas.List.{take_all}
use Rattle.av1_frame.specs.Arithmetic.{clip, round_shift}
use Rattle.av1_inter.specs.Motion.{entry, intermediate, intermediate_at, intermediate_bits, single, sum_to, weighted}
use Rattle.av1_blocks.specs.Depths.{IsDepth}
use Rattle.av1_inter.specs.Scaffolding.{gains, IsFilter, losses}
use Rattle.av1_inter.proofs.Sums.{gain, gains_more, loss, losses_more, weighted_same}

-- a weight times a number
product_is : (t : ℤ) (v : ℕ) → t *ℤ pos v ≡ pos (gain t * v) -ℤ pos (loss t * v)
product_is (pos n) v = omega (arith, ints)
product_is (negsuc n) v = omega (arith, ints)

both_are : (G g L l v : ℕ) (s p : ℤ) → s ≡ pos (G * v) -ℤ pos (L * v) → p ≡ pos (g * v) -ℤ pos (l * v) → s +ℤ p ≡ pos ((G + g) * v) -ℤ pos ((L + l) * v)
both_are G g L l v s p h k =
    let a : (G + g) * v ≡ G * v + g * v = grind arith in
    let b : (L + l) * v ≡ L * v + l * v = grind arith in
    omega (arith, ints, a, b, h, k)

partial_is : (taps : List ℤ) (v k : ℕ) → k ≤ length taps →
    sum_to k (λ t. entry taps t *ℤ pos v) ≡ pos (gains (take k taps) * v) -ℤ pos (losses (take k taps) * v)
unfolding sum_to
partial_is taps v zero h = omega (arith, ints)
partial_is taps v (suc k) h =
    let s = both_are _ _ _ _ v _ _ (partial_is taps v k (omega arith)) (product_is (entry taps k) v) in
    rw (gains_more taps k (omega arith), losses_more taps k (omega arith)) s

-- all of a filter's weights, times one number
pub weighted_constant : (taps : List ℤ) (v : ℕ) → IsFilter taps → weighted taps (λ t. pos v) ≡ pos (128 * v)
weighted_constant taps v f =
    let s = partial_is taps v 8 (omega (arith, f.size)) ∙ ap (λ u. pos (gains u * v) -ℤ pos (losses u * v)) (take_all 8 taps (omega (arith, f.size))) in
    let a : gains taps * v ≡ 128 * v + losses taps * v = ap (λ n. n * v) f.whole
    ∙ (let d : (128 + losses taps) * v ≡ 128 * v + losses taps * v = grind arith in d) in
    omega (arith, ints, s, a)

-- the roundings of such sums
first_rounding : (depth : ℕ) → IsDepth depth → (v : ℕ) → round_shift (pos (128 * v)) (7 - intermediate_bits depth) ≡ pos (v * 2 ^ intermediate_bits depth)
first_rounding depth (inl e) v = rw e (ap pos (omega arith))
first_rounding depth (inr (inl e)) v = rw e (ap pos (omega arith))
first_rounding depth (inr (inr e)) v = rw e (ap pos (omega arith))

last_rounding : (depth : ℕ) → IsDepth depth → (v : ℕ) → round_shift (pos (v * 2 ^ intermediate_bits depth)) (intermediate_bits depth) ≡ pos v
last_rounding depth (inl e) v = rw e (ap pos (omega arith))
last_rounding depth (inr (inl e)) v = rw e (ap pos (omega arith))
last_rounding depth (inr (inr e)) v = rw e (ap pos (omega arith))

both_roundings : (depth : ℕ) → IsDepth depth → (v : ℕ) → round_shift (pos (128 * (v * 2 ^ intermediate_bits depth))) (7 + intermediate_bits depth) ≡ pos v
both_roundings depth (inl e) v = rw e (ap pos (omega arith))
both_roundings depth (inr (inl e)) v = rw e (ap pos (omega arith))
both_roundings depth (inr (inr e)) v = rw e (ap pos (omega arith))

only_rounding : (v : ℕ) → round_shift (pos (128 * v)) 7 ≡ pos v
only_rounding v = ap pos (omega arith)

clip_stays : (depth v : ℕ) → v < 2 ^ depth → clip depth (pos v) ≡ v
clip_stays depth v h = omega arith

-- a row that is constant where the taps stand
intermediate_constant : (depth : ℕ) → IsDepth depth → (fx : ℕ) (across : List ℤ) (row : ℕ → ℕ) (c v : ℕ) → IsFilter across →
    ((t : ℕ) → t < 8 → row (c + t) ≡ v) → intermediate_at depth fx across row c ≡ pos (v * 2 ^ intermediate_bits depth)
intermediate_constant depth d zero across row c v f h = ap (λ n. pos (n * 2 ^ intermediate_bits depth)) (h 3 (omega arith))
intermediate_constant depth d (suc k) across row c v f h =
    ap (λ z. round_shift z (7 - intermediate_bits depth)) (weighted_same across (λ t. pos (row (c + t))) (λ t. pos v) (λ t l. ap pos (h t l))
    ∙ weighted_constant across v f)
    ∙ first_rounding depth d v

-- samples that are constant where a block's sample reads them give that sample
pub single_constant : (depth : ℕ) → IsDepth depth → (fx fy : ℕ) (across down : List ℤ) (samples : ℕ → ℕ → ℕ) (r c v : ℕ) → IsFilter across → IsFilter down →
    v < 2 ^ depth → ((x y : ℕ) → x < c + 8 → y < r + 8 → samples x y ≡ v) → single depth fx fy across down samples r c ≡ v
single_constant depth d zero zero across down samples r c v f g l h = h (c + 3) (r + 3) (omega arith) (omega arith)
single_constant depth d zero (suc k) across down samples r c v f g l h =
    ap (λ z. clip depth (round_shift z 7))
    (weighted_same down (λ t. pos (samples (c + 3) (r + t))) (λ t. pos v) (λ t m. ap pos (h (c + 3) (r + t) (omega arith) (omega arith)))
    ∙ weighted_constant down v g)
    ∙ ap (clip depth) (only_rounding v) ∙ clip_stays depth v l
single_constant depth d (suc j) zero across down samples r c v f g l h =
    ap (λ z. clip depth (round_shift z (intermediate_bits depth)))
    (intermediate_constant depth d (suc j) across (λ x. samples x (r + 3)) c v f (λ t m. h (c + t) (r + 3) (omega arith) (omega arith)))
    ∙ ap (clip depth) (last_rounding depth d v) ∙ clip_stays depth v l
single_constant depth d (suc j) (suc k) across down samples r c v f g l h =
    ap (λ z. clip depth (round_shift z (7 + intermediate_bits depth)))
    (weighted_same down (λ t. intermediate depth (suc j) across samples (r + t) c) (λ t. pos (v * 2 ^ intermediate_bits depth))
    (λ t m. intermediate_constant depth d (suc j) across (λ x. samples x (r + t)) c v f (λ i n. h (c + i) (r + t) (omega arith) (omega arith)))
    ∙ weighted_constant down (v * 2 ^ intermediate_bits depth) g)
    ∙ ap (clip depth) (both_roundings depth d v) ∙ clip_stays depth v l
