-- A block that is predicted by numbers and sides that are those of a transform in its plane.
use Rattle.std.proofs.Common.{ℕ, ℤ, ◌≡◌, List, subst}
use Rattle.av1_blocks.specs.declared.predict.PredictionMode.{PredictionMode}
use Rattle.av1_calls.specs.IntraBlocks.{Predicts, PredictsBy}
use Rattle.av1_calls.specs.declared.intra.IntraBlock.{IntraBlock}

module _ {T : Type 0} (bits : ℕ) (num : T → ℕ) (pixel : ℕ → T) (stride : ℕ) (b k : IntraBlock) (x u y v : ℕ) (left l : List T) (corner : T)
    (above a : List T) (before after : List T) (answer : ℕ) (block_is : b ≡ k) (column_is : x ≡ u) (row_is : y ≡ v) (left_is : left ≡ l)
    (above_is : above ≡ a) where
  -- by the mode of its number
  pub numbered_there : Predicts bits num pixel b stride x y left corner above before after answer →
      Predicts bits num pixel k stride u v l corner a before after answer
  numbered_there p =
      subst (λ (m : IntraBlock). Predicts bits num pixel m stride u v l corner a before after answer) block_is
      (subst (λ (n : ℕ). Predicts bits num pixel b stride n v l corner a before after answer) column_is
      (subst (λ (n : ℕ). Predicts bits num pixel b stride x n l corner a before after answer) row_is
      (subst (λ (xs : List T). Predicts bits num pixel b stride x y xs corner a before after answer) left_is
      (subst (λ (xs : List T). Predicts bits num pixel b stride x y left corner xs before after answer) above_is p))))

  -- by a mode, with luma's differences and their weight
  pub predicted_there : (by : PredictionMode) (ac : List ℤ) (z alpha : ℤ) → z ≡ alpha
      → PredictsBy bits num pixel b by stride x y left corner above ac z before after answer
      → PredictsBy bits num pixel k by stride u v l corner a ac alpha before after answer
  predicted_there by ac z alpha weight_is p =
      subst (λ (m : IntraBlock). PredictsBy bits num pixel m by stride u v l corner a ac alpha before after answer) block_is
      (subst (λ (n : ℕ). PredictsBy bits num pixel b by stride n v l corner a ac alpha before after answer) column_is
      (subst (λ (n : ℕ). PredictsBy bits num pixel b by stride x n l corner a ac alpha before after answer) row_is
      (subst (λ (xs : List T). PredictsBy bits num pixel b by stride x y xs corner a ac alpha before after answer) left_is
      (subst (λ (xs : List T). PredictsBy bits num pixel b by stride x y left corner xs ac alpha before after answer) above_is
      (subst (λ (w : ℤ). PredictsBy bits num pixel b by stride x y left corner above ac w before after answer) weight_is p)))))
