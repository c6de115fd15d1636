-- A rotation in wrapping words is a rotation that wraps once.
use Rattle.std.proofs.Common.{arith, ◌≡◌, ◌%◌, ◌*◌, ◌+◌, ◌^◌, ◌<◌, ℤ, pos, ◌+ℤ◌, ◌*ℤ◌, w32, to_z, of_z, ap, ◌∙◌, FitsSigned}
use Rattle.std.specs.Int.{int_wrap, int_wrapping_mul}
use Rattle.std.proofs.lemmas.Int.{ints, to_z-of_z, SFits-int_wrap, wrapping_add-bits, wrapping_add_onto, wrapping_mul_is, int_wrap-add_left, int_wrap-add_right}
use Rattle.std.proofs.lemmas.Int.{int_wrap-add_same}
use Rattle.std.specs.Int.Signed.{shr_z, mag_shr}
use Rattle.av1_dct.specs.Arithmetic.{round12, wrap32}
use Rattle.av1_dct.specs.Operations.{half_btf, half_btf_with}

-- to wrap at each operation is to wrap once
wrapped : (w0 a w1 b : ℤ) → FitsSigned w32 w0 → FitsSigned w32 a → FitsSigned w32 w1 → FitsSigned w32 b →
    to_z w32 (((of_z w32 w0 * of_z w32 a % 4294967296 + of_z w32 w1 * of_z w32 b % 4294967296) % 4294967296 + 2048) % 4294967296) ≡
    wrap32 (w0 *ℤ a +ℤ w1 *ℤ b +ℤ pos 2048)
wrapped w0 a w1 b fw0 fa fw1 fb =
    let p = of_z w32 w0 * of_z w32 a % 4294967296 in
    let q = of_z w32 w1 * of_z w32 b % 4294967296 in
    wrapping_add_onto w32 ((p + q) % 4294967296) (pos 2048) (omega arith) (omega arith)
    ∙ ap (λ z. int_wrap w32 (z +ℤ pos 2048)) (wrapping_add-bits w32 p q (omega arith) (omega arith))
    ∙ int_wrap-add_left w32 _ (pos 2048)
    ∙ int_wrap-add_same w32 _ _ (pos 2048)
    (ap (λ z. int_wrap w32 (z +ℤ int_wrapping_mul w32 w1 b)) (wrapping_mul_is w32 w0 a fw0 fa)
    ∙ int_wrap-add_left w32 (w0 *ℤ a) _
    ∙ ap (λ z. int_wrap w32 (w0 *ℤ a +ℤ z)) (wrapping_mul_is w32 w1 b fw1 fb)
    ∙ int_wrap-add_right w32 (w0 *ℤ a) (w1 *ℤ b))

pub shifted : (z : ℤ) → FitsSigned w32 z → FitsSigned w32 (shr_z z 4096)
shifted z h = record { sfits = omega (arith, mag_shr z 4096, h.sfits) }

pub btf_is : (w0 a w1 b : ℤ) → FitsSigned w32 w0 → FitsSigned w32 a → FitsSigned w32 w1 → FitsSigned w32 b →
    to_z w32
    (of_z w32 (shr_z (to_z w32 (((of_z w32 w0 * of_z w32 a % 4294967296 + of_z w32 w1 * of_z w32 b % 4294967296) % 4294967296 + 2048) % 4294967296)) 4096)) ≡
    half_btf w0 a w1 b
unfolding half_btf_with
btf_is w0 a w1 b f0 fa f1 fb =
    let fits = SFits-int_wrap w32 (w0 *ℤ a +ℤ w1 *ℤ b +ℤ pos 2048) in
    ap (λ z. to_z w32 (of_z w32 (shr_z z 4096))) (wrapped w0 a w1 b f0 fa f1 fb)
    ∙ to_z-of_z w32 _ (shifted _ fits)

-- a sum with a product, and a rounded sum, in wrapping words
pub product_is : (s w x : ℤ) → FitsSigned w32 s → FitsSigned w32 w → FitsSigned w32 x →
    to_z w32 ((of_z w32 s + of_z w32 w * of_z w32 x % 4294967296) % 4294967296) ≡ wrap32 (s +ℤ w *ℤ x)
product_is s w x fs fw fx =
    let p = of_z w32 w * of_z w32 x % 4294967296 in
    let small : of_z w32 s < 2 ^ 32 = omega (arith, ints) in
    wrapping_add-bits w32 (of_z w32 s) p small (omega arith)
    ∙ ap (λ z. int_wrap w32 (z +ℤ to_z w32 p)) (to_z-of_z w32 s fs)
    ∙ ap (λ z. int_wrap w32 (s +ℤ z)) (wrapping_mul_is w32 w x fw fx)
    ∙ int_wrap-add_right w32 s (w *ℤ x)

pub rounding_is : (s : ℤ) → FitsSigned w32 s → to_z w32 (of_z w32 (shr_z (to_z w32 ((of_z w32 s + 2048) % 4294967296)) 4096)) ≡ round12 s
rounding_is s f =
    let small : of_z w32 s < 2 ^ 32 = omega (arith, ints) in
    let e : to_z w32 ((of_z w32 s + 2048) % 4294967296) ≡ wrap32 (s +ℤ pos 2048) = wrapping_add_onto w32 (of_z w32 s) (pos 2048) small (omega (arith, ints))
    ∙ ap (λ z. int_wrap w32 (z +ℤ pos 2048)) (to_z-of_z w32 s f) in
    ap (λ z. to_z w32 (of_z w32 (shr_z z 4096))) e ∙ to_z-of_z w32 _ (shifted _ (SFits-int_wrap w32 (s +ℤ pos 2048)))
