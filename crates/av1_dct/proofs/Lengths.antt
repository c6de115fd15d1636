-- A transform of n words, once n is known as a number.
use Rattle.std.proofs.Common.{ℕ, ◌≡◌, ◌*◌, ◌^◌, ◌∙◌, ℤ, List, take, ap, sym, subst}
use Rattle.std.specs.List.{All}
use Rattle.av1_dct.specs.Arithmetic.{FitsBits}
use Rattle.av1_dct.specs.Cosine.{cosine}
use Rattle.av1_dct.proofs.Powers.{power_only}

pub fits_at : (range n m : ℕ) (zs : List ℤ) → n ≡ m → All (FitsBits range) (take n zs) → All (FitsBits range) (take m zs)
fits_at range n m zs e fit = let P : ℕ → Type 0 = λ x. All (FitsBits range) (take x zs) in subst P e fit

pub value_at : (range n j k : ℕ) (xs ys : List ℤ) → n ≡ 2 * 2 ^ j → n ≡ 2 * 2 ^ k → take (2 * 2 ^ j) ys ≡ cosine range j (take (2 * 2 ^ j) xs) →
    take n ys ≡ cosine range k (take n xs)
value_at range n j k xs ys ej ek is =
    ap (λ x. take x ys) ej ∙ is
    ∙ ap (λ q. cosine range q (take (2 * 2 ^ j) xs)) (power_only j k (sym ej ∙ ek))
    ∙ ap (λ x. cosine range k (take x xs)) (sym ej)
