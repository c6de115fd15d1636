-- Numbers of samples of a depth, and half of their range.
use Rattle.std.proofs.Common.{ℕ, ◌+◌, ◌-◌, ◌*◌, ◌%◌, ◌^◌, ◌<◌, ◌≤◌, ◌≡◌, ap, arith, ◌∙◌}
use Rattle.std.proofs.lemmas.Nat.{pow-add}
use Rattle.std.proofs.Math.Nat.{pow-le-pow_right}

pub pow_le : (d b : ℕ) → d ≤ b → 2 ^ d ≤ 2 ^ b
pow_le d b h = pow-le-pow_right (omega arith) h

pub below_depth : (v d b : ℕ) → v < 2 ^ d → d ≤ b → v < 2 ^ b
below_depth v d b h e = omega (arith, pow_le d b e)

pub half_depth : (d : ℕ) → 8 ≤ d → 128 * 2 ^ (d - 8) + 128 * 2 ^ (d - 8) ≡ 2 ^ d
half_depth d h =
    let e : 2 ^ d ≡ 2 ^ 8 * 2 ^ (d - 8) = ap (λ n. 2 ^ n) (omega arith) ∙ pow-add 2 8 (d - 8) in omega (arith, e)

-- half of a depth's range in a word
pub half_fits : (d : ℕ) → 8 ≤ d → d ≤ 16 → 128 * 2 ^ (d - 8) % 4294967296 ≡ 128 * 2 ^ (d - 8)
half_fits d h e = omega (arith, half_depth d h, pow_le d 16 e)

pub half_below : (r d b : ℕ) → r + r ≡ 2 ^ d → 128 ≤ r → d ≤ b → r + 1 < 2 ^ b
half_below r d b e h l = omega (arith, pow_le d b l)
