-- The least and the greatest of some numbers tell whether all have so many bits.
use Rattle.std.proofs.Common.{ℕ, ◌≡◌, ◌⊎◌, inl, inr, ◌+◌, ◌<◌, ◌≤◌, ℤ, pos, ◌≤ℤ◌, List, length, arith, sym, subst}
use Rattle.std.proofs.lemmas.Bool.{cases_lt}
use Rattle.std.proofs.lemmas.Int.{ints}
use Rattle.std.proofs.lemmas.List.{get_or_past}
use Rattle.av1_dct.specs.Arithmetic.{at, FitsBits}
use Rattle.av1_dct.proofs.Fits.{zero_fits}

-- The first n numbers lie between these two, each of which fits where they do.
pub record AreLimits (bits n : ℕ) (numbers : List ℤ) (least greatest : ℤ) : Type 0 where
  pub low : (k : ℕ) → k < n → least ≤ℤ at numbers k
  pub high : (k : ℕ) → k < n → at numbers k ≤ℤ greatest
  pub least_fits : ((k : ℕ) → k < n → FitsBits bits (at numbers k)) → FitsBits bits least
  pub greatest_fits : ((k : ℕ) → k < n → FitsBits bits (at numbers k)) → FitsBits bits greatest

-- either of two numbers fits where both do
either_fits : (bits : ℕ) (z a b : ℤ) → (z ≡ a) ⊎ (z ≡ b) → FitsBits bits a → FitsBits bits b → FitsBits bits z
either_fits bits z a b (inl e) fa fb = subst (FitsBits bits) (sym e) fa
either_fits bits z a b (inr e) fa fb = subst (FitsBits bits) (sym e) fb

-- one more number
pub limits_on : (bits n : ℕ) (numbers : List ℤ) (least greatest number least' greatest' : ℤ) → number ≡ at numbers n → AreLimits bits n numbers least greatest
    → least' ≤ℤ least → least' ≤ℤ number → (least' ≡ least) ⊎ (least' ≡ number)
    → greatest ≤ℤ greatest' → number ≤ℤ greatest' → (greatest' ≡ greatest) ⊎ (greatest' ≡ number)
    → AreLimits bits (n + 1) numbers least' greatest'
limits_on bits n numbers least greatest number least' greatest' is old l0 l1 le g0 g1 ge =
    record {
      low = λ k h. elim (cases_lt k n) [
        | inl lt ↦ (let o = old.low k lt in omega (arith, ints, o, l0))
        | inr from ↦ (let e : k ≡ n = omega arith in subst (λ (m : ℕ). least' ≤ℤ at numbers m) (sym e) (subst (λ (z : ℤ). least' ≤ℤ z) is l1))
      ];
      high = λ k h. elim (cases_lt k n) [
        | inl lt ↦ (let o = old.high k lt in omega (arith, ints, o, g0))
        | inr from ↦ (let e : k ≡ n = omega arith in subst (λ (m : ℕ). at numbers m ≤ℤ greatest') (sym e) (subst (λ (z : ℤ). z ≤ℤ greatest') is g1))
      ];
      least_fits =
          λ all. either_fits bits least' least number le (old.least_fits (λ k h. all k (omega arith))) (subst (FitsBits bits) (sym is) (all n (omega arith)));
      greatest_fits =
          λ all. either_fits bits greatest' greatest number ge (old.greatest_fits (λ k h. all k (omega arith)))
          (subst (FitsBits bits) (sym is) (all n (omega arith)));
    }

-- coefficients past the end of a list have so many bits, too
pub given_fit : (bits count given : ℕ) (coefficients : List ℤ) → ((i : ℕ) → i < count → given ≤ i → length coefficients ≤ i)
    → ((i : ℕ) → i < given → FitsBits bits (at coefficients i)) → (i : ℕ) → i < count → FitsBits bits (at coefficients i)
given_fit bits count given coefficients rest fit i h =
    elim (cases_lt i given) [
      | inl b ↦ fit i b
      | inr b ↦ subst (FitsBits bits) (sym (get_or_past coefficients i (pos 0) (rest i h b))) (zero_fits bits)
    ]
