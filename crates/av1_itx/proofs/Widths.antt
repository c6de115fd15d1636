-- Numbers of few bits, and lists of them.
use Rattle.std.proofs.Common.{ℕ, zero, suc, ◌≡◌, ◌-◌, ◌*◌, ◌^◌, ◌<◌, ◌≤◌, ℤ, pos, List, All, [], ◌∷◌, map, take, reverse, length, arith, ap, sym, subst, ◌∙◌}
use Rattle.std.proofs.Common.{inl, inr}
use Rattle.std.proofs.lemmas.Bool.{cases_lt}
use Rattle.std.proofs.lemmas.List.{take_all, map-id, get_or_past, get_or-reverse, length-reverse}
use Rattle.av1_dct.specs.Arithmetic.{AllFit, FitsBits, at}
use Rattle.av1_lists.specs.Sides.{IsTransformSide}
use Rattle.av1_dct.proofs.Fits.{zero_fits, all-fit}

-- the lengths that there are cosine transforms of
pub is_length : (k n : ℕ) → 1 ≤ k → k ≤ 5 → n ≡ 2 * 2 ^ k → IsTransformSide n
is_length zero n low high e = absurd (omega arith)
is_length (suc zero) n low high e = inl e
is_length (suc (suc zero)) n low high e = inr (inl e)
is_length (suc (suc (suc zero))) n low high e = inr (inr (inl e))
is_length (suc (suc (suc (suc zero)))) n low high e = inr (inr (inr (inl e)))
is_length (suc (suc (suc (suc (suc zero))))) n low high e = inr (inr (inr (inr e)))
is_length (suc (suc (suc (suc (suc (suc k)))))) n low high e = absurd (omega arith)

-- a call on slices of just the transform's length
pub whole_is : (n : ℕ) (f : List ℤ → List ℤ) (xs ys : List ℤ) → length xs ≡ n → length ys ≡ n → take n ys ≡ f (take n xs) → ys ≡ f xs
whole_is n f xs ys lx ly e = sym (take_all n ys (omega arith)) ∙ e ∙ ap f (take_all n xs (omega arith))

-- what holds of four numbers and of 0 holds at each place of their list
pub each_of_four : (P : ℤ → Type 0) (x y z w : ℤ) → P (pos 0) → P x → P y → P z → P w → (i : ℕ) → P (at (x ∷ y ∷ z ∷ w ∷ []) i)
each_of_four P x y z w none hx hy hz hw zero = hx
each_of_four P x y z w none hx hy hz hw (suc zero) = hy
each_of_four P x y z w none hx hy hz hw (suc (suc zero)) = hz
each_of_four P x y z w none hx hy hz hw (suc (suc (suc zero))) = hw
each_of_four P x y z w none hx hy hz hw (suc (suc (suc (suc i)))) = none

pub four_fit : (b : ℕ) (x y z w : ℤ) → FitsBits b x → FitsBits b y → FitsBits b z → FitsBits b w → AllFit b (x ∷ y ∷ z ∷ w ∷ [])
four_fit b x y z w hx hy hz hw = each_of_four (FitsBits b) x y z w (zero_fits b) hx hy hz hw

pub reverse-fits : (b : ℕ) (xs : List ℤ) → AllFit b xs → AllFit b (reverse xs)
reverse-fits b xs f = λ i.
    let P : ℤ → Type 0 = λ z. FitsBits b z in
    elim (cases_lt i (length xs)) [
      | inl h ↦ subst P (sym (get_or-reverse xs i (pos 0) h)) (f (length xs - 1 - i))
      | inr h ↦ subst P (sym (get_or_past (reverse xs) i (pos 0) (omega (arith, length-reverse xs)))) (zero_fits b)
    ]

-- lanes that fit the bits of a range fit 20
pub fits : {n range : ℕ} (lanes : ℕ → List ℤ) → (8 ≤ range) × (range ≤ 20) → ((i : ℕ) → i < n → All (FitsBits range) (lanes i)) → (i : ℕ) → i < n →
    AllFit 20 (lanes i)
fits {range = range} lanes range_in fit = λ i h. all-fit range 20 (lanes i) range_in.1 (fit i h)

-- numbers are words of one lane
pub numbers-fit : {b : ℕ} (xs : List ℤ) → All (FitsBits b) xs → AllFit b (map (λ x. x) xs)
numbers-fit {b} xs fit = let P : List ℤ → Type 0 = λ zs. AllFit b zs in subst P (sym (map-id xs)) (all-fit b b xs (omega arith) fit)
