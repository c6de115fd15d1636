-- The tables of weights and of reversed places are what they are defined as.
use Rattle.std.proofs.Common.{ℕ, zero, suc, ◌≡◌, ◌+◌, ◌-◌, ◌*◌, ◌/◌, ◌%◌, ◌^◌, ◌<◌, ◌≤◌, ℤ, pos, ◌≤ℤ◌, map, get_or, arith, ◌∙◌, ap, refl, sym, mod-lt, pow-add}
use Rattle.std.specs.List.{range_with_len}
use Rattle.std.specs.Int.Signed.{le_z}
use Rattle.std.proofs.lemmas.Int.{ints}
use Rattle.std.proofs.lemmas.List.FromFn.{get_or-map-range_with_len}
use Rattle.std.proofs.lemmas.List.Sums.{AllPass-from_list_all}
use Rattle.std.proofs.lemmas.Nat.{shr_below, shl-shr, pow_pos}
use Rattle.std.proofs.Math.Pow.{pow_mono}
use Rattle.std.proofs.Math.Nat.{mod-eq_of_lt, div-eq_of_lt, suc-add, mul-le-mul_left, pow-suc}
use Rattle.av1_dct.specs.Arithmetic.{at}
use Rattle.av1_dct.specs.Cosine.{cos128_lookup, brev, cos128}
use Rattle.av1_dct.specs.declared.weights.TheConstants.{COSPI_INV, REVERSED}

pub weight_bounds : (a : ℕ) → a < 64 → (pos 0 ≤ℤ cos128 a) × (cos128 a ≤ℤ pos 4096)
unfolding cos128
weight_bounds a h =
    let low = AllPass-from_list_all (λ (z : ℤ). le_z (pos 0) z) cos128_lookup refl a (pos 0) h in
    let high = AllPass-from_list_all (λ (z : ℤ). le_z z (pos 4096)) cos128_lookup refl a (pos 0) h in
    (grind (arith, ints), grind (arith, ints))

-- the table of `brev 6`
pub REVERSED_is : (p : ℕ) → p < 64 → get_or REVERSED p 0 ≡ brev 6 p
unfolding brev
REVERSED_is p h =
    let table : REVERSED ≡ map (brev 6) (range_with_len 0 64) = refl in
    ap (λ t. get_or t p 0) table ∙ get_or-map-range_with_len (brev 6) 0 64 p p 0 h (omega arith)

pub brev-lt : (k p : ℕ) → p < 2 ^ k → brev k p < 2 ^ k
unfolding brev
brev-lt zero p h = omega arith
brev-lt (suc k) p h =
    let some = pow_pos k in
    let low = brev-lt k (p % 2 ^ k) (mod-lt p some) in
    let high : p / 2 ^ k < 2 ^ 1 = shr_below p 1 k (omega (arith, pow-add 2 1 k, pow-suc 2 k)) in
    omega (arith, pow-suc 2 k)

pub brev-suc : (k p : ℕ) → p < 2 ^ k → brev (suc k) p ≡ 2 * brev k p
unfolding brev
brev-suc k p h = grind (arith, mod-eq_of_lt h, div-eq_of_lt h)

-- more bits than p has
pub brev-add : (d k p : ℕ) → p < 2 ^ k → brev (d + k) p ≡ 2 ^ d * brev k p
brev-add zero k p h = grind arith
brev-add (suc d) k p h =
    let wide : p < 2 ^ (d + k) = omega (arith, pow-add 2 d k, pow_pos d, mul-le-mul_left (2 ^ k) (pow_pos d)) in
    rw suc-add (brev-suc (d + k) p wide ∙ omega (arith, brev-add d k p h, ap (λ n. n * brev k p) (pow-suc 2 d)))

pub unit_is : (k : ℕ) → k ≤ 5 → 32 / 2 ^ k ≡ 2 ^ (5 - k)
unit_is k h = ap (λ n. n / 2 ^ k) (let e : 32 ≡ 2 ^ (5 - k) * 2 ^ k = ap (λ i. 2 ^ i) (let f : 5 ≡ 5 - k + k = omega arith in f) ∙ pow-add 2 (5 - k) k in e)
    ∙ shl-shr (2 ^ (5 - k)) k

-- an angle of step 1, from the table
pub outer_is : (k p : ℕ) → k ≤ 5 → p < 2 ^ k → get_or REVERSED p 0 + 32 / 2 ^ k ≡ 32 / 2 ^ k * (2 * brev k p + 1)
outer_is k p hk hp =
    let small : 2 ^ k ≤ 2 ^ 6 = pow_mono {i = k} {j = 6} (omega arith) in
    let full : brev 6 p ≡ 2 ^ (6 - k) * brev k p = ap (λ n. brev n p) (let e : 6 ≡ 6 - k + k = omega arith in e) ∙ brev-add (6 - k) k p hp in
    let twice : 2 ^ (6 - k) ≡ 2 ^ (5 - k) * 2 = ap (λ i. 2 ^ i) (let e : 6 - k ≡ suc (5 - k) = omega arith in e) ∙ pow-suc 2 (5 - k) in
    rw (REVERSED_is p (omega arith), unit_is k hk, full, twice) (omega arith)

pub outer_bounds : (k p : ℕ) → k ≤ 5 → p < 2 ^ k → (1 ≤ 32 / 2 ^ k * (2 * brev k p + 1)) × (32 / 2 ^ k * (2 * brev k p + 1) ≤ 63)
outer_bounds k p hk hp =
    let whole : 2 ^ (5 - k) * 2 ^ k ≡ 2 ^ 5 = sym (pow-add 2 (5 - k) k) ∙ ap (λ i. 2 ^ i) (let e : 5 - k + k ≡ 5 = omega arith in e) in
    let below = mul-le-mul_left (2 ^ (5 - k)) (brev-lt k p hp) in
    let some = pow_pos (5 - k) in
    rw (unit_is k hk) (omega arith, omega arith)

-- the code's table
pub weight_is : (a : ℕ) → at COSPI_INV a ≡ cos128 a
unfolding cos128
weight_is a = let e : COSPI_INV ≡ cos128_lookup = refl in ap (λ t. at t a) e
