-- The Walsh-Hadamard transform loses nothing.
use Rattle.std.proofs.Common.{◌≡◌, ℤ, ◌+ℤ◌, ◌-ℤ◌, List, [], ◌∷◌, length, arith, ap}
use Rattle.std.specs.Int.{int_shr}
use Rattle.std.proofs.lemmas.Int.{ints}
use Rattle.av1_dct.specs.Arithmetic.{at}
use Rattle.av1_itx.proofs.Fills.{four_same}
use Rattle.av1_itx.specs.Walsh.{walsh, walsh_with}

-- the values, from the half h and the outputs
solved : (a b c d a' b' c' d' h h' : ℤ) → (a +ℤ b -ℤ (c -ℤ d) ≡ a' +ℤ b' -ℤ (c' -ℤ d') → h ≡ h') → a +ℤ b -ℤ (h -ℤ d) ≡ a' +ℤ b' -ℤ (h' -ℤ d') →
    h -ℤ d ≡ h' -ℤ d' → h -ℤ b ≡ h' -ℤ b' → c -ℤ d +ℤ (h -ℤ b) ≡ c' -ℤ d' +ℤ (h' -ℤ b') → a ∷ b ∷ c ∷ d ∷ [] ≡ a' ∷ b' ∷ c' ∷ d' ∷ []
solved a b c d a' b' c' d' h h' half e0 e1 e2 e3 =
    let same : a +ℤ b -ℤ (c -ℤ d) ≡ a' +ℤ b' -ℤ (c' -ℤ d') = omega (arith, ints) in
    let g = half same in
    four_same a b c d a' b' c' d' (omega (arith, ints)) (omega (arith, ints)) (omega (arith, ints)) (omega (arith, ints))

pub determined : (x y : List ℤ) → length x ≡ 4 → length y ≡ 4 → walsh x ≡ walsh y → x ≡ y
unfolding walsh_with
determined [] y lx ly e = absurd (omega (arith, lx))
determined (a ∷ []) y lx ly e = absurd (omega (arith, lx))
determined (a ∷ b ∷ []) y lx ly e = absurd (omega (arith, lx))
determined (a ∷ b ∷ c ∷ []) y lx ly e = absurd (omega (arith, lx))
determined (a ∷ b ∷ c ∷ d ∷ z ∷ zs) y lx ly e = absurd (omega (arith, lx))
determined (a ∷ b ∷ c ∷ d ∷ []) [] lx ly e = absurd (omega (arith, ly))
determined (a ∷ b ∷ c ∷ d ∷ []) (p ∷ []) lx ly e = absurd (omega (arith, ly))
determined (a ∷ b ∷ c ∷ d ∷ []) (p ∷ q ∷ []) lx ly e = absurd (omega (arith, ly))
determined (a ∷ b ∷ c ∷ d ∷ []) (p ∷ q ∷ r ∷ []) lx ly e = absurd (omega (arith, ly))
determined (a ∷ b ∷ c ∷ d ∷ []) (p ∷ q ∷ r ∷ s ∷ z ∷ zs) lx ly e = absurd (omega (arith, ly))
determined (a ∷ b ∷ c ∷ d ∷ []) (a' ∷ b' ∷ c' ∷ d' ∷ []) lx ly e =
    solved a b c d a' b' c' d' _ _ (ap (λ z. int_shr z 1)) (ap (λ zs. at zs 0) e) (ap (λ zs. at zs 1) e) (ap (λ zs. at zs 2) e) (ap (λ zs. at zs 3) e)
