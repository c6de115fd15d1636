-- What is copied to the rows of a window.
use Rattle.std.proofs.Common.{refl, ℕ, ◌+◌, ◌-◌, ◌<◌, ◌≤◌, ◌≡◌, ◌∙◌, ◌++◌, ap, arith, inl, inr, List, length, take, drop, get_or}
use Rattle.std.proofs.lemmas.Bool.{cases_lt}
use Rattle.std.proofs.lemmas.Bool.Decides.{nat_tests}
use Rattle.std.proofs.lemmas.List.{get_or_default, get_or-drop, places}
use Rattle.av1_frame.specs.Samples.{paint_row}
use Rattle.av1_frame.proofs.Update.{get_or-update, length-update, update_is}
use Rattle.av1_calls.specs.MovedBlocks.{gathered_column}

-- a row that is painted in two parts
pub joined_row : {X : Type 0} (n m : ℕ) (f g h : ℕ → X → X) (row front back a b : List X) → n + m ≤ length row → front ≡ take n row → back ≡ drop n row →
    a ≡ paint_row n f front → b ≡ paint_row m g back → ((c : ℕ) (v : X) → c < n → f c v ≡ h c v) → ((c : ℕ) (v : X) → c < m → g c v ≡ h (n + c) v)
    → a ++ b ≡ paint_row (n + m) h row
unfolding paint_row
joined_row n m f g h row front back a b long front_is back_is a_is b_is same after =
    rw (a_is, b_is, front_is, back_is) (update_is _ row _ (grind (arith, places, length-update)) (λ k d q. elim (cases_lt k n) [
      | inl x ↦ (let e = same k (get_or row k d) x in grind (arith, nat_tests, places, get_or-update, length-update))
      | inr x ↦ elim (cases_lt k (n + m)) [
        | inl y ↦
            let e = after (k - n) (get_or row k d) (omega (arith, x, y)) in
            let p : n + (k - n) ≡ k = omega (arith, x) in
            grind (arith, nat_tests, places, get_or-update, length-update)
        | inr y ↦ grind (arith, nat_tests, places, get_or-update, length-update)
      ]
    ]))

-- a row of a window: the first column, the columns from the visible ones, and the last column
module _ {X : Type 0} (source from : List X) (b start inside visible width : ℕ) (some : 0 < visible) (long : visible ≤ length source)
    (fits : b + inside ≤ width) (stored : start + inside ≤ visible) (from_is : from ≡ drop start source) where
  column : ℕ → X → X
  column c v = get_or source (gathered_column b start inside visible c) v

  first_is : (x v : X) (c : ℕ) → x ≡ get_or source 0 x → c < b → x ≡ column c v
  unfolding column
  first_is x v c e h = e ∙ get_or_default source 0 x v (omega arith)
      ∙ ap (λ n. get_or source n v) (let z : 0 ≡ gathered_column b start inside visible c = grind (arith, nat_tests) in z)

  copied_is : (v : X) (c : ℕ) → c < inside → get_or from c v ≡ column (b + c) v
  unfolding column
  copied_is v c h =
      let z : start + c ≡ gathered_column b start inside visible (b + c) = grind (arith, nat_tests) in
      ap (λ s. get_or s c v) from_is ∙ get_or-drop start source c v ∙ ap (λ n. get_or source n v) z

  last_is : (x v : X) (c : ℕ) → x ≡ get_or source (visible - 1) x → x ≡ column (b + (inside + c)) v
  unfolding column
  last_is x v c e =
      let z : visible - 1 ≡ gathered_column b start inside visible (b + (inside + c)) = grind (arith, nat_tests) in
      e ∙ get_or_default source (visible - 1) x v (omega arith) ∙ ap (λ n. get_or source n v) z

  pub gathered_row : (row before rest middle behind before' middle' behind' : List X) (first last : X) → width ≤ length row
      → before ≡ take b row → rest ≡ drop b row → middle ≡ take inside rest → behind ≡ drop inside rest
      → first ≡ get_or source 0 first → last ≡ get_or source (visible - 1) last
      → before' ≡ paint_row b (λ _ _. first) before → middle' ≡ paint_row inside (λ c v. get_or from c v) middle
      → behind' ≡ paint_row (width - b - inside) (λ _ _. last) behind
      → before' ++ (middle' ++ behind') ≡ paint_row width (λ c v. get_or source (gathered_column b start inside visible c) v) row
  unfolding column
  gathered_row row before rest middle behind before' middle' behind' first last wide eb er em eh ef el pb pm ph =
      let n : ℕ = width - b - inside in
      let rest_long : length rest ≡ length row - b = ap length er ∙ grind (arith, places) in
      let back = joined_row inside n (λ c v. get_or from c v) (λ _ _. last) (λ c v. column (b + c) v) rest middle behind middle' behind'
      (omega (arith, rest_long)) em eh pm ph (λ c v h. copied_is v c h) (λ c v h. last_is last v c el) in
      let all : b + (inside + n) ≡ width = omega (arith, fits) in
      joined_row b (inside + n) (λ _ _. first) (λ c v. column (b + c) v) column row before rest before' (middle' ++ behind') (omega (arith, all)) eb er pb back
      (λ c v h. first_is first v c ef h) (λ c v h. refl)
      ∙ ap (λ k. paint_row k column row) all
