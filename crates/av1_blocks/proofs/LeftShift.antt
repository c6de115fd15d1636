-- A shift to the left is a product, where that fits the 16 bits.
use Rattle.std.proofs.Common.{◌≡◌, ℕ, zero, suc, ◌+◌, ◌-◌, ◌*◌, ◌<◌, ◌≤◌, ◌%◌, ℤ, pos, negsuc, ◌*ℤ◌, neg_ℤ, FitsSigned, w16, to_z, of_z, subst, ap, sym, ◌∙◌}
use Rattle.std.proofs.Common.{arith}
use Rattle.std.proofs.Math.Nat.{mod-eq_of_lt, add-mul, le-mul_of_pos_right}
use Rattle.std.proofs.Math.Facts.{to_z-neg}
use Rattle.std.proofs.lemmas.Nat.{mod-mul-add}
use Rattle.std.proofs.lemmas.Int.{to_z_pos}

positive : (m : ℕ) → m < 32768 → to_z w16 (m % 65536) ≡ pos m
positive m small =
    let within : m < 65536 = omega arith in
    ap (to_z w16) (mod-eq_of_lt within) ∙ to_z_pos w16 m small

negative : (n p q : ℕ) → suc n * suc p ≡ suc q → q < 32768 → to_z w16 ((65536 - suc n) * suc p % 65536) ≡ negsuc q
negative n p q product small =
    let least : suc n ≤ suc n * suc p = le-mul_of_pos_right (suc n) (omega arith) in
    let whole : (65536 - suc n) + suc n ≡ 65536 = omega arith in
    let split : (65536 - suc n) * suc p + suc n * suc p ≡ 65536 * suc p = sym (add-mul (65536 - suc n) (suc n) (suc p)) ∙ ap (λ a. a * suc p) whole in
    let bits : (65536 - suc n) * suc p ≡ p * 65536 + (65536 - suc q) = omega arith in
    let low : 65536 - suc q < 65536 = omega arith in
    ap (λ a. to_z w16 (a % 65536)) bits ∙ ap (to_z w16) (mod-mul-add p 65536 (65536 - suc q) low) ∙ to_z-neg w16 q small

negative_fits : (n p q : ℕ) → suc n * suc p ≡ suc q → FitsSigned w16 (neg_ℤ (pos (suc n * suc p))) →
    to_z w16 ((65536 - suc n) * suc p % 65536) ≡ neg_ℤ (pos (suc n * suc p))
negative_fits n p q product fits =
    let bound : FitsSigned w16 (negsuc q) = subst (λ m. FitsSigned w16 (neg_ℤ (pos m))) product fits in
    negative n p q product bound.sfits ∙ sym (ap (λ m. neg_ℤ (pos m)) product)

-- What the code's `x << k` gives, with p for the power of two.
pub to_z-mul : (x : ℤ) (p : ℕ) → 0 < p → FitsSigned w16 (x *ℤ pos p) → to_z w16 (of_z w16 x * p % 65536) ≡ x *ℤ pos p
to_z-mul (pos n) p above fits = positive (n * p) fits.sfits
to_z-mul (negsuc n) zero above fits = absurd (omega arith)
to_z-mul (negsuc n) (suc p) above fits =
    let least : suc n ≤ suc n * suc p = le-mul_of_pos_right (suc n) (omega arith) in
    negative_fits n p (suc n * suc p - 1) (omega arith) fits
