-- The numbers of a side that is upsampled.
use Rattle.std.proofs.Common.{ℕ, ◌+◌, ◌-◌, ◌*◌, ◌/◌, ◌%◌, ◌<◌, ◌≤◌, ◌≡◌, List, length, get_or, refl, ap, arith, ◌∙◌, sym, min, pos}
use Rattle.std.proofs.lemmas.Bool.Decides.{nat_tests}
use Rattle.std.proofs.lemmas.List.{get_or-map}
use Rattle.av1_frame.specs.Arithmetic.{clip}
use Rattle.av1_intra.specs.Sides.{Side, numbers}
use Rattle.av1_intra.specs.Upsampling.{upsampled}

pub upsampled_even : (depth m e r : ℕ) (A : Side) → e ≤ m → r ≡ A e → r ≡ upsampled depth m A (2 * e)
unfolding upsampled
upsampled_even depth m e r A h q =
    let a : 2 * e / 2 ≡ e = omega arith in
    let b : 2 * e % 2 ≡ 0 = omega arith in
    q ∙ sym (ap A a) ∙ grind (arith, nat_tests)

pub upsampled_odd : (depth m e r a b c d : ℕ) (A : Side) → e < m → a ≡ A (e - 1) → b ≡ A e → c ≡ A (e + 1) → d ≡ A (min m (e + 2)) →
    r ≡ clip depth (pos ((9 * b + 9 * c + 8 - (a + d)) / 16)) → r ≡ upsampled depth m A (2 * e + 1)
unfolding upsampled
upsampled_odd depth m e r a b c d A h ha hb hc hd q =
    let x : (2 * e + 1) / 2 ≡ e = omega arith in
    let y : (2 * e + 1) % 2 ≡ 1 = omega arith in
    let f = λ (h : ℕ). clip depth (pos ((9 * A h + 9 * A (h + 1) + 8 - (A (h - 1) + A (min (h + 2) m))) / 16)) in
    let z : r ≡ f e = q ∙ ap (λ v. clip depth (pos ((9 * v + 9 * c + 8 - (a + d)) / 16))) hb
    ∙ ap (λ v. clip depth (pos ((9 * A e + 9 * v + 8 - (a + d)) / 16))) hc
    ∙ ap (λ v. clip depth (pos ((9 * A e + 9 * A (e + 1) + 8 - (v + d)) / 16))) ha
    ∙ ap (λ v. clip depth (pos ((9 * A e + 9 * A (e + 1) + 8 - (A (e - 1) + v)) / 16))) (hd ∙ ap A (omega arith)) in
    z ∙ sym (ap f x) ∙ grind (arith, nat_tests)

pub upsampled_first : {X : Type 0} (num : X → ℕ) (pixel : ℕ → X) (depth m : ℕ) (old : List X) (d : X) → ((x : X) → pixel (num x) ≡ x) → 0 < length old →
    pixel (upsampled depth m (numbers num old) 0) ≡ get_or old 0 d
upsampled_first num pixel depth m old d law l =
    ap pixel (sym (upsampled_even depth m 0 _ (numbers num old) (omega arith) refl) ∙ get_or-map num old 0 d 0 l) ∙ law (get_or old 0 d)
