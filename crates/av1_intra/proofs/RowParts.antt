-- A row that is painted in parts, each behind the one before it.
use Rattle.std.proofs.Common.{ℕ, ◌+◌, ◌-◌, ◌<◌, ◌≤◌, ◌≡◌, List, ◌++◌, length, get_or, take, drop, ap, arith, ◌∙◌, sym, inl, inr}
use Rattle.std.proofs.lemmas.Bool.Decides.{nat_tests}
use Rattle.std.proofs.lemmas.Bool.{cases_lt}
use Rattle.std.proofs.lemmas.List.{places, get_or-map}
use borrow.Rule.Slice.PartMut.{put_mid}
use Rattle.av1_frame.specs.Samples.{paint_row}
use Rattle.av1_frame.proofs.Update.{update_is, length-update, get_or-update}
use Rattle.av1_intra.specs.Sides.{numbers}

-- the first n samples are painted by f, which agrees there with g
pub painted_front : {X : Type 0} (n m : ℕ) (f g : ℕ → X → X) (s ys : List X) → n ≤ length s → m ≡ n → ys ≡ paint_row m f (take n s) →
    ((k : ℕ) (v : X) → k < n → f k v ≡ g k v) → ys ++ drop n s ≡ paint_row n g s
unfolding paint_row
painted_front n m f g s ys h c e a =
    ap (λ y. y ++ drop n s) e ∙ update_is _ s _ (grind (arith, places, length-update)) (λ k d l. elim (cases_lt k n) [
      | inl b ↦ (let q = a k (get_or s k d) b in grind (arith, nat_tests, places, get_or-update, length-update))
      | inr b ↦ grind (arith, nat_tests, places, get_or-update, length-update)
    ])

-- and then those from n to w, by f counted from n on
pub painted_rest : {X : Type 0} (n m w : ℕ) (f g : ℕ → X → X) (s t ys : List X) → n ≤ w → w ≤ length s → m ≡ w - n → t ≡ paint_row n g s →
    ys ≡ paint_row m f (take (w - n) (drop n t)) → ((k : ℕ) (v : X) → k < w - n → f k v ≡ g (n + k) v) → put_mid n (w - n) t ys ≡ paint_row w g s
unfolding paint_row
painted_rest n m w f g s t ys h l c p e a =
    ap (put_mid n (w - n) t) e ∙ ap (λ u. put_mid n (w - n) u (paint_row m f (take (w - n) (drop n u)))) p
    ∙ update_is _ s _ (grind (arith, places, length-update)) (λ k d q. elim (cases_lt k n) [
      | inl b ↦ grind (arith, nat_tests, places, get_or-update, length-update)
      | inr b ↦ elim (cases_lt k w) [
        | inl x ↦ (let y = a (k - n) (get_or s k d) (omega arith) in let z : n + (k - n) ≡ k = omega arith
            in grind (arith, nat_tests, places, get_or-update, length-update))
        | inr x ↦ grind (arith, nat_tests, places, get_or-update, length-update)
      ]
    ])

-- a sample is that of its number
pub sample_is : {X : Type 0} (num : X → ℕ) (pixel : ℕ → X) (xs : List X) (k : ℕ) (d : X) → ((x : X) → pixel (num x) ≡ x) → k < length xs →
    get_or xs k d ≡ pixel (numbers num xs k)
sample_is num pixel xs k d law h = sym (law (get_or xs k d)) ∙ sym (ap pixel (get_or-map num xs k d 0 h))
