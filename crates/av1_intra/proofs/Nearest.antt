-- Paeth prediction by distances from the corner.
use Rattle.std.proofs.Common.{ℕ, ◌<◌, ◌≤◌, ◌≡◌, arith, inl, inr}
use Rattle.std.proofs.lemmas.Bool.{cases_lt}
use Rattle.std.proofs.lemmas.Bool.Decides.{nat_tests}
use Rattle.av1_intra.specs.Sides.{distance}
use Rattle.av1_intra.specs.Paeth.{paeth}
use Rattle.av1_intra.specs.Scaffolding.{IsCornerDistance}

module _ (a l k off : ℕ) (is : IsCornerDistance a l k off) (few_a : a ≤ 65535) (few_l : l ≤ 65535) (few_k : k ≤ 65535) where
  -- the left sample is nearest
  pub nearest_left : distance a k ≤ distance l k → distance a k ≤ off → l ≡ paeth a l k
  unfolding paeth
  nearest_left p q =
      elim (cases_lt a k) [
        | inl b ↦ elim (cases_lt l k) [
          | inl d ↦ (let o = is.below b d in grind (arith, nat_tests))
          | inr d ↦ (let o = is.left_over b d in grind (arith, nat_tests))
        ]
        | inr b ↦ elim (cases_lt l k) [
          | inl d ↦ (let o = is.left_below b d in grind (arith, nat_tests))
          | inr d ↦ (let o = is.over b d in grind (arith, nat_tests))
        ]
      ]

  -- the sample above is nearest
  pub nearest_above : (distance a k ≤ distance l k → distance a k ≤ off → ⊥) → distance l k ≤ off → a ≡ paeth a l k
  unfolding paeth
  nearest_above p q =
      elim (cases_lt a k) [
        | inl b ↦ elim (cases_lt l k) [
          | inl d ↦ (let o = is.below b d in grind (arith, nat_tests))
          | inr d ↦ (let o = is.left_over b d in grind (arith, nat_tests))
        ]
        | inr b ↦ elim (cases_lt l k) [
          | inl d ↦ (let o = is.left_below b d in grind (arith, nat_tests))
          | inr d ↦ (let o = is.over b d in grind (arith, nat_tests))
        ]
      ]

  -- the corner is nearest
  pub nearest_corner : (distance a k ≤ distance l k → distance a k ≤ off → ⊥) → off < distance l k → k ≡ paeth a l k
  unfolding paeth
  nearest_corner p q =
      elim (cases_lt a k) [
        | inl b ↦ elim (cases_lt l k) [
          | inl d ↦ (let o = is.below b d in grind (arith, nat_tests))
          | inr d ↦ (let o = is.left_over b d in grind (arith, nat_tests))
        ]
        | inr b ↦ elim (cases_lt l k) [
          | inl d ↦ (let o = is.left_below b d in grind (arith, nat_tests))
          | inr d ↦ (let o = is.over b d in grind (arith, nat_tests))
        ]
      ]
