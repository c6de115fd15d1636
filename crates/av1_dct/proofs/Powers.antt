-- Powers of two.
use Rattle.std.proofs.Common.{ℕ, ◌≡◌, ◌≤◌, ◌<◌, ◌^◌, ◌-◌, ◌*◌, arith, inl, inr}
use Rattle.std.proofs.Math.Pow.{pow_mono}
use Rattle.std.proofs.lemmas.Bool.{cases_lt}
use Rattle.std.proofs.lemmas.Nat.{pow_below, pow_pos}

-- half the span of b bits
pub half_span : (b : ℕ) → b ≤ 32 → (0 < 2 ^ (b - 1)) × (2 ^ (b - 1) ≤ 2 ^ 31)
half_span b h = (pow_pos (b - 1), pow_mono {i = b - 1} {j = 31} (omega arith))

-- a power of two has one exponent
pub power_only : (j k : ℕ) → 2 * 2 ^ j ≡ 2 * 2 ^ k → j ≡ k
power_only j k e =
    elim (cases_lt j k) [
      | inl h ↦ absurd (omega (arith, pow_below j k h))
      | inr h ↦ elim (cases_lt k j) [ inl g ↦ absurd (omega (arith, pow_below k j g)) | inr g ↦ omega arith ]
    ]
