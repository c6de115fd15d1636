-- Numbers of some bits.
use Rattle.std.proofs.Common.{◌≡◌, ℕ, ◌+◌, ◌-◌, ◌*◌, ◌/◌, ◌%◌, ◌^◌, ◌<◌, ◌≤◌, arith, sym, ap, subst, ◌∙◌, inl, inr}
use Rattle.std.proofs.Common.{div-lt_iff_lt-mul}
use Rattle.std.proofs.Math.Nat.{mod-eq_of_lt}
use Rattle.std.proofs.Math.Pow.{pow_mono}
use Rattle.av1_blocks.specs.Depths.{IsDepth}
use Rattle.std.proofs.lemmas.Nat.{pow_pos, pow-add}

-- the upper bits of a number of 64
pub upper_below : (x k : ℕ) → x < 2 ^ 64 → k ≤ 31 → x / 2 ^ (64 - k) < 2 ^ k
upper_below x k h few =
    let parts : 64 ≡ k + (64 - k) = omega arith in
    let whole : 2 ^ 64 ≡ 2 ^ k * 2 ^ (64 - k) = ap (λ n. 2 ^ n) parts ∙ pow-add 2 k (64 - k) in
    (div-lt_iff_lt-mul (pow_pos (64 - k))).1 (subst (λ n. x < n) whole h)

pub upper_few : (x k : ℕ) → x < 2 ^ 64 → k ≤ 31 → x / 2 ^ (64 - k) < 2 ^ 32
upper_few x k h few =
    let small : x / 2 ^ (64 - k) < 2 ^ k = upper_below x k h few in
    let below : 2 ^ k ≤ 2 ^ 31 = pow_mono few in
    omega (arith, small, below)

-- a power that fits 32 bits
pub power : (k : ℕ) → k ≤ 31 → 1 * 2 ^ k % 4294967296 ≡ 2 ^ k
power k few =
    let below : 2 ^ k ≤ 2 ^ 31 = pow_mono few in
    let one : 1 * 2 ^ k ≡ 2 ^ k = omega arith in
    subst (λ n. n % 4294967296 ≡ 2 ^ k) (sym one) (mod-eq_of_lt (omega (arith, below)))

-- a power is two halves of it
pub halves : (k : ℕ) → 1 ≤ k → 2 ^ (k - 1) + 2 ^ (k - 1) ≡ 2 ^ k
halves k some =
    let parts : k ≡ (k - 1) + 1 = omega arith in
    let twice : 2 ^ k ≡ 2 ^ (k - 1) * 2 = ap (λ n. 2 ^ n) parts ∙ pow-add 2 (k - 1) 1 in
    omega (arith, twice)

-- and is half a million at most, of numbers that are drawn
pub half_few : (k : ℕ) → k ≤ 20 → 2 ^ (k - 1) ≤ 524288
half_few k few = pow_mono {i = k - 1} {j = 19} (omega (arith, few))

-- a number of fewer bits
pub deeper : (x k n : ℕ) → k ≤ n → x < 2 ^ k → x < 2 ^ n
deeper x k n few h = let e : 2 ^ k ≤ 2 ^ n = pow_mono few in omega arith

-- 1 is a sample of any depth
pub one_below : (depth n : ℕ) → IsDepth depth → depth ≤ n → 1 < 2 ^ n
one_below depth n (inl e) h = deeper 1 8 n (omega (arith, e, h)) (omega arith)
one_below depth n (inr (inl e)) h = deeper 1 8 n (omega (arith, e, h)) (omega arith)
one_below depth n (inr (inr e)) h = deeper 1 8 n (omega (arith, e, h)) (omega arith)
