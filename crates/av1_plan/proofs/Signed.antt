-- Numbers of so many signed bits.
use Rattle.std.proofs.Common.{◌≡◌, ℕ, ◌+◌, ◌-◌, ◌*◌, ◌%◌, ◌^◌, ◌≤◌, ◌&&◌, not, refl, ap, arith, ℤ, pos, neg_ℤ, int_lt, to_z, w32}
use Rattle.std.proofs.Math.Pow.{pow_mono}
use Rattle.std.proofs.lemmas.Int.{to_z_pos}
use Rattle.av1_plan.specs.Validity.{fits_signed}

-- half the range of depth + 8 signed bits is a small number
pub limit_small : (depth : ℕ) → depth ≤ 12 → 2 ^ (depth + 7) ≤ 2 ^ 19
limit_small depth le = let h : depth + 7 ≤ 19 = omega arith in pow_mono h

-- and what a shift makes it
pub limit_is : (depth : ℕ) → depth ≤ 12 → to_z w32 (1 * 2 ^ (depth + 7) % 4294967296) ≡ pos (2 ^ (depth + 7))
limit_is depth le =
    let small = limit_small depth le in
    let e : 1 * 2 ^ (depth + 7) % 4294967296 ≡ 2 ^ (depth + 7) = omega (arith, small) in
    rw e (to_z_pos w32 (2 ^ (depth + 7)) (omega (arith, small)))

bits : (depth : ℕ) → 2 ^ (depth + 8 - 1) ≡ 2 ^ (depth + 7)
bits depth = let e : depth + 8 - 1 ≡ depth + 7 = omega arith in ap (λ (n : ℕ). 2 ^ n) e

-- what fits lies within half the range
pub fits_is : (depth : ℕ) (v : ℤ) → (not (int_lt v (neg_ℤ (pos (2 ^ (depth + 7))))) && int_lt v (pos (2 ^ (depth + 7)))) ≡ fits_signed (depth + 8) v
unfolding fits_signed
fits_is depth v = rw (bits depth) refl
