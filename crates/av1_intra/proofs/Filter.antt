-- The numbers of a side that is smoothed.
use Rattle.std.proofs.Common.{ℕ, ◌+◌, ◌-◌, ◌/◌, ◌<◌, ◌≤◌, ◌≡◌, List, [], ◌∷◌, true, false, length, get_or, ap, arith, ◌∙◌, cond, eqb, min, ◌⊎◌}
use Rattle.std.proofs.lemmas.Bool.Decides.{nat_tests}
use Rattle.std.proofs.lemmas.List.{get_or-map}
use Rattle.av1_intra.specs.EdgeFilter.{kernel}
use Rattle.av1_intra.specs.Sides.{Side, entries, numbers}
use Rattle.av1_intra.specs.EdgeFilter.{weighted, filtered}

weighted_same : (s : ℕ) (f g : ℕ → ℕ) → f 0 ≡ g 0 → f 1 ≡ g 1 → f 2 ≡ g 2 → f 3 ≡ g 3 → f 4 ≡ g 4 → weighted (kernel s) 0 f ≡ weighted (kernel s) 0 g
weighted_same s f g a b c d e =
    elim (eqb s 1) as (λ t. weighted (cond t (0 ∷ 4 ∷ 8 ∷ 4 ∷ 0 ∷ []) (cond (eqb s 2) (0 ∷ 5 ∷ 6 ∷ 5 ∷ 0 ∷ []) (2 ∷ 4 ∷ 4 ∷ 4 ∷ 2 ∷ []))) 0 f ≡
    weighted (cond t (0 ∷ 4 ∷ 8 ∷ 4 ∷ 0 ∷ []) (cond (eqb s 2) (0 ∷ 5 ∷ 6 ∷ 5 ∷ 0 ∷ []) (2 ∷ 4 ∷ 4 ∷ 4 ∷ 2 ∷ []))) 0 g) [
      | true ↦ omega arith
      | false ↦ elim (eqb s 2) as (λ t. weighted (cond t (0 ∷ 5 ∷ 6 ∷ 5 ∷ 0 ∷ []) (2 ∷ 4 ∷ 4 ∷ 4 ∷ 2 ∷ [])) 0 f ≡
          weighted (cond t (0 ∷ 5 ∷ 6 ∷ 5 ∷ 0 ∷ []) (2 ∷ 4 ∷ 4 ∷ 4 ∷ 2 ∷ [])) 0 g) [
            | true ↦ omega arith
            | false ↦ omega arith
          ]
    ]

-- a smoothed number, from the five that it is made of
pub filtered_at : (n s i : ℕ) (A : Side) (a b c d e r : ℕ) → 0 < s → 1 ≤ i → i ≤ n → a ≡ A (i - 2) → b ≡ A (i - 1) → c ≡ A i → d ≡ A (min n (i + 1)) →
    e ≡ A (min n (i + 2)) → r ≡ (weighted (kernel s) 0 (entries (a ∷ b ∷ c ∷ d ∷ e ∷ [])) + 8) / 16 → r ≡ filtered n s A i
unfolding filtered
filtered_at n s i A a b c d e r hs h1 hn ha hb hc hd he hr =
    let w = weighted_same s (entries (a ∷ b ∷ c ∷ d ∷ e ∷ [])) (λ j. A (min (i + j - 2) n))
    (ha ∙ ap A (omega arith)) (hb ∙ ap A (omega arith)) (hc ∙ ap A (omega arith)) (hd ∙ ap A (omega arith)) (he ∙ ap A (omega arith)) in
    hr ∙ ap (λ v. (v + 8) / 16) w ∙ grind (arith, nat_tests)

-- an entry that no filter changes
pub filtered_stays : (n s i : ℕ) (A : Side) → (s ≡ 0) ⊎ ((i ≡ 0) ⊎ (n ≡ 0)) → filtered n s A i ≡ A i
unfolding filtered
filtered_stays n s i A h = grind (arith, nat_tests)

-- a sample that no filter changes
pub sample_stays : {X : Type 0} (num : X → ℕ) (pixel : ℕ → X) (n s k : ℕ) (old : List X) (d : X) → ((x : X) → pixel (num x) ≡ x) →
    (s ≡ 0) ⊎ ((k ≡ 0) ⊎ (n ≡ 0)) → k < length old → pixel (filtered n s (numbers num old) k) ≡ get_or old k d
sample_stays num pixel n s k old d law h l =
    ap pixel (filtered_stays n s k (numbers num old) h ∙ get_or-map num old k d 0 l) ∙ law (get_or old k d)
