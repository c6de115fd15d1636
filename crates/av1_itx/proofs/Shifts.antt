-- Shifts of values to the left, and of the first values of a list.
use Rattle.std.proofs.Common.{ℕ, ◌≡◌, ◌*◌, ◌/◌, ◌%◌, ◌^◌, ◌<◌, ◌≤◌, ℤ, pos, negsuc, ◌+ℤ◌, ◌*ℤ◌, ◌<ℤ◌, List, ◌++◌, map, take, drop, arith, ap, sym, subst}
use Rattle.std.proofs.Common.{unsigned_abs, ◌∙◌, w32, to_z, of_z, FitsSigned}
use Rattle.std.specs.Int.{int_wrap}
use Rattle.std.proofs.lemmas.Int.{ints, to_z-of_z, wrapping_mul-bits, int_wrap-mul_right}
use Rattle.std.proofs.lemmas.List.{map-id, take-append-drop}
use Rattle.std.proofs.Math.Nat.{mod-eq_of_lt}
use Rattle.std.proofs.Math.Pow.{pow_mono}
use Rattle.av1_dct.specs.Arithmetic.{wrap32}
use Rattle.av1_itx.specs.Shift.{shifted, SumFits}

power_is : (n : ℕ) → n < 2 ^ 32 → to_z w32 n ≡ int_wrap w32 (pos n)
unfolding int_wrap
power_is n h = ap (to_z w32) (sym (mod-eq_of_lt h))

-- the machine's shift of v
pub shift_left_is : (v : ℤ) (b : ℕ) → FitsSigned w32 v → b ≤ 31 → to_z w32 (of_z w32 v * 2 ^ b % 4294967296) ≡ wrap32 (v *ℤ pos (2 ^ b))
shift_left_is v b f h =
    let small : 2 ^ b ≤ 2 ^ 31 = pow_mono {i = b} {j = 31} h in
    let low : of_z w32 v < 2 ^ 32 = omega (arith, ints) in
    wrapping_mul-bits w32 (of_z w32 v) (2 ^ b) low (omega arith)
    ∙ ap (λ z. int_wrap w32 (z *ℤ to_z w32 (2 ^ b))) (to_z-of_z w32 v f)
    ∙ ap (λ z. int_wrap w32 (v *ℤ z)) (power_is (2 ^ b) (omega arith))
    ∙ int_wrap-mul_right w32 v (pos (2 ^ b))

-- no shift at all
pub not_shifted : (bit : ℤ) (n : ℕ) (xs : List ℤ) → bit ≡ pos 0 → xs ≡ map (shifted bit) (take n xs) ++ drop n xs
not_shifted bit n xs e =
    sym (take-append-drop n xs) ∙ ap (λ ys. ys ++ drop n xs) (sym (map-id (take n xs)))
    ∙ ap (λ b. map (shifted b) (take n xs) ++ drop n xs) (sym e)

-- the sum of a shift to the right
pub sum_fits : (bit v : ℤ) (n : ℕ) → n ≡ unsigned_abs bit → pos 0 <ℤ bit → SumFits bit v → (v +ℤ pos (2 ^ n / 2)) <ℤ pos (2 ^ 31)
sum_fits (pos b) v n e h f = subst (λ (m : ℕ). (v +ℤ pos (2 ^ m / 2)) <ℤ pos (2 ^ 31)) (sym e) f
sum_fits (negsuc b) v n e h f = absurd (omega (arith, ints))
