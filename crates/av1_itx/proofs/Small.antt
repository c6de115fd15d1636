-- The identity transforms and the Walsh-Hadamard transform.
use Rattle.std.proofs.Common.{◌≡◌, ◌≢◌, ◌∙◌, ℕ, zero, suc, ℤ, pos, negsuc, ◌+ℤ◌, ◌-ℤ◌, ◌*ℤ◌, List, [], ◌∷◌, arith, ap, refl, subst, sym, w32, FitsSigned}
use Rattle.std.specs.Int.{int_shr}
use Rattle.std.proofs.lemmas.Int.{ints, int_wrap_fits}
use Rattle.av1_dct.specs.Arithmetic.{at, round12, FitsBits}
use Rattle.av1_dct.specs.Operations.{half_btf, half_btf_with}
use Rattle.av1_frame.specs.Arithmetic.{round_shift}
use Rattle.av1_itx.specs.Identity.{exact, scaled, scaled_with}
use Rattle.av1_itx.specs.Walsh.{walsh, walsh_with}

nothing : (y z : ℤ) → y +ℤ pos 0 *ℤ z ≡ y
nothing y z = omega (arith, ints)

pub round_is : (w z : ℤ) → half_btf w z (pos 0) z ≡ round12 (w *ℤ z)
unfolding half_btf_with
round_is w z = ap round12 (nothing (w *ℤ z) z)

-- a shifted number of which so many whole ones were taken
shr_more : (a b z : ℤ) → b ≡ a +ℤ pos 4096 *ℤ z → z +ℤ int_shr a 12 ≡ int_shr b 12
shr_more (pos a) (pos b) (pos z) e = omega (arith, ints, e)
shr_more (pos a) (pos b) (negsuc z) e = omega (arith, ints, e)
shr_more (pos a) (negsuc b) (pos z) e = omega (arith, ints, e)
shr_more (pos a) (negsuc b) (negsuc z) e = omega (arith, ints, e)
shr_more (negsuc a) (pos b) (pos z) e = omega (arith, ints, e)
shr_more (negsuc a) (pos b) (negsuc z) e = omega (arith, ints, e)
shr_more (negsuc a) (negsuc b) (pos z) e = omega (arith, ints, e)
shr_more (negsuc a) (negsuc b) (negsuc z) e = omega (arith, ints, e)

pub rest_of_root : (z : ℤ) → FitsBits 20 z → z +ℤ round12 (pos 1697 *ℤ z) ≡ int_shr (pos 5793 *ℤ z +ℤ pos 2048) 12
rest_of_root z f =
    let fits : FitsSigned w32 (pos 1697 *ℤ z +ℤ pos 2048) = omega (arith, ints, f.low, f.high) in
    ap (λ (s : ℤ). z +ℤ int_shr s 12) (int_wrap_fits w32 _ fits) ∙ shr_more (pos 1697 *ℤ z +ℤ pos 2048) (pos 5793 *ℤ z +ℤ pos 2048) z (omega (arith, ints))

pub rest_of_two_roots : (z : ℤ) → FitsBits 20 z → z +ℤ z +ℤ round12 (pos 3394 *ℤ z) ≡ int_shr (pos 11586 *ℤ z +ℤ pos 2048) 12
rest_of_two_roots z f =
    let fits : FitsSigned w32 (pos 3394 *ℤ z +ℤ pos 2048) = omega (arith, ints, f.low, f.high) in
    ap (λ (s : ℤ). z +ℤ z +ℤ int_shr s 12) (int_wrap_fits w32 _ fits)
    ∙ shr_more (pos 3394 *ℤ z +ℤ pos 2048) (pos 11586 *ℤ z +ℤ pos 2048) (z +ℤ z) (omega (arith, ints))

pub root_sum_fits : (y t : ℤ) → FitsBits 21 y → FitsBits 24 t → FitsSigned w32 (y +ℤ t)
root_sum_fits y t f h = omega (arith, ints, f.low, f.high, h.low, h.high)

-- by 2 and by 4 nothing is rounded
pub even_same : (k : ℕ) (z : ℤ) → k ≢ 1 → k ≢ 3 → scaled k z ≡ scaled_with exact k z
unfolding scaled_with
even_same zero z one three = refl
even_same (suc zero) z one three = absurd (one refl)
even_same (suc (suc zero)) z one three = refl
even_same (suc (suc (suc zero))) z one three = absurd (three refl)
even_same (suc (suc (suc (suc k)))) z one three = refl

pub double_is : (z : ℤ) → z +ℤ z ≡ pos 2 *ℤ z
double_is z = omega (arith, ints)

pub twice_is : (z : ℤ) → z +ℤ z +ℤ (z +ℤ z) ≡ pos 4 *ℤ z
twice_is z = omega (arith, ints)

pub halved-fits : (z : ℤ) → FitsBits 31 z → FitsBits 30 (int_shr z 1)
halved-fits (pos a) f = record { low = omega (arith, ints); high = omega (arith, ints, f.high) }
halved-fits (negsuc a) f = record { low = omega (arith, ints, f.low); high = omega (arith, ints) }

-- half of the sum of two values of 29 bits less the difference of two
pub half-fits : {a b c d s t u v : ℤ} → FitsBits 29 a → FitsBits 29 b → FitsBits 29 c → FitsBits 29 d → s ≡ a +ℤ b → t ≡ c -ℤ d → u ≡ s -ℤ t → v ≡ int_shr u 1 →
    FitsBits 30 v
half-fits {u = u} fa fb fc fd es et eu ev =
    let r : FitsBits 31 u = record {
      low = omega (arith, ints, fa.low, fa.high, fb.low, fb.high, fc.low, fc.high, fd.low, fd.high, es, et, eu);
      high = omega (arith, ints, fa.low, fa.high, fb.low, fb.high, fc.low, fc.high, fd.low, fd.high, es, et, eu);
    } in
    subst (λ (z : ℤ). FitsBits 30 z) (sym ev) (halved-fits u r)

pub walsh_is : (x : List ℤ) (s4 a b c d : ℤ) → s4 ≡ int_shr (at x 0 +ℤ at x 1 -ℤ (at x 2 -ℤ at x 3)) 1 → a ≡ at x 0 +ℤ at x 1 -ℤ (s4 -ℤ at x 3) →
    b ≡ s4 -ℤ at x 3 → c ≡ s4 -ℤ at x 1 → d ≡ at x 2 -ℤ at x 3 +ℤ (s4 -ℤ at x 1) → a ∷ b ∷ c ∷ d ∷ [] ≡ walsh x
unfolding walsh_with
walsh_is x s4 a b c d hs ha hb hc hd = cc

-- a number of 20 bits times the square root of one half
pub half_root : (z : ℤ) → FitsBits 20 z → half_btf (pos 2896) z (pos 0) z ≡ round_shift (pos 2896 *ℤ z) 12
half_root z f =
    let fits : FitsSigned w32 (pos 2896 *ℤ z +ℤ pos 2048) = omega (arith, ints, f.low, f.high) in
    round_is (pos 2896) z ∙ ap (λ (s : ℤ). int_shr s 12) (int_wrap_fits w32 _ fits)
