-- Rounded shifts of signed numbers, and places that are counted from a signed one.
use Rattle.std.proofs.Common.{ℕ, ◌/◌, ◌^◌, ◌≤◌, ◌≡◌, ◌∙◌, ap, ℤ, pos, ◌+ℤ◌, ◌<ℤ◌, arith, w32, to_z, of_z, FitsSigned}
use Rattle.std.specs.Int.Signed.{shr_z, mag_shr}
use Rattle.std.proofs.lemmas.Int.{ints, to_z-of_z}
use Rattle.std.proofs.Math.Pow.{pow_mono}
use Rattle.av1_frame.specs.Arithmetic.{round_shift}

-- half of such a power fits 32 signed bits
pub half_small : (b : ℕ) → b ≤ 30 → 2 ^ b / 2 ≤ 2 ^ 29
half_small b h = let small : 2 ^ b ≤ 2 ^ 30 = pow_mono {i = b} {j = 30} h in omega arith

pub sum_fits : (v : ℤ) (b : ℕ) → FitsSigned w32 v → b ≤ 30 → (v +ℤ pos (2 ^ b / 2)) <ℤ pos (2 ^ 31) → FitsSigned w32 (v +ℤ pos (2 ^ b / 2))
sum_fits v b f h g = let s = half_small b h in omega (arith, ints, f, g)

-- the machine's shift of that sum
pub round_shift_is : (v : ℤ) (b : ℕ) → FitsSigned w32 (v +ℤ pos (2 ^ b / 2)) → (x : ℤ) → x ≡ v +ℤ pos (2 ^ b / 2) →
    to_z w32 (of_z w32 (shr_z x (2 ^ b))) ≡ round_shift v b
round_shift_is v b f x e =
    let s : FitsSigned w32 (shr_z (v +ℤ pos (2 ^ b / 2)) (2 ^ b)) = record { sfits = omega (arith, mag_shr (v +ℤ pos (2 ^ b / 2)) (2 ^ b), f.sfits) } in
    ap (λ z. to_z w32 (of_z w32 (shr_z z (2 ^ b)))) e ∙ to_z-of_z w32 _ s
