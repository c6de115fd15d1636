-- What is found among the places of a rectangle.
use Rattle.std.proofs.Common.{◌≡◌, ℕ, zero, suc, ◌+◌, ◌<◌, ◌≤◌, ◌⊎◌, inl, inr, Bool, true, false, cond, map, Option, Some, None, refl, sym, ap, subst, ◌∙◌}
use Rattle.std.proofs.Common.{arith}
use Rattle.std.specs.Prelude.{find}
use Rattle.std.specs.List.{range_with_len}
use Rattle.std.specs.Option.{option_or}
use Rattle.std.proofs.lemmas.Bool.{cases_lt}
use Rattle.std.proofs.lemmas.List.Folds.{find-append}
use Rattle.av1_trace.specs.Differences.{Place, raster}

abbrev pub at : ℕ → ℕ → Place
at y x = record { x = x; y = y }

-- the first of numbers, or one behind it
pub first_or_later : (a x : ℕ) → a ≤ x → (a ≡ x) ⊎ (a + 1 ≤ x)
first_or_later a x h = elim (cases_lt a x) [
  | inl l ↦ inr (omega arith)
  | inr l ↦ inl (omega arith)
]

module _ (q : Place → Bool) where
  -- ---- one row

  row_none : (y x0 n : ℕ) → ((x : ℕ) → x0 ≤ x → x < x0 + n → q (at y x) ≡ false) → find q (map (at y) (range_with_len x0 n)) ≡ None
  row_none y x0 zero h = refl
  row_none y x0 (suc n) h =
      let here : q (at y x0) ≡ false = h x0 (omega arith) (omega arith) in
      rw here (row_none y (x0 + 1) n (λ x a b. h x (omega arith) (omega arith)))

  row_some : (y x0 n k x : ℕ) → k < n → x ≡ x0 + k → q (at y x) ≡ true → ((z : ℕ) → x0 ≤ z → z < x → q (at y z) ≡ false) →
      find q (map (at y) (range_with_len x0 n)) ≡ Some (at y x)
  row_some y x0 zero k x l e passes h = absurd (omega arith)
  row_some y x0 (suc n) zero x l e passes h =
      let same : x ≡ x0 = omega arith in
      let here : q (at y x0) ≡ true = subst (λ (z : ℕ). q (at y z) ≡ true) same passes in
      rw here (ap (λ (z : ℕ). let o : Option Place = Some (at y z) in o) (sym same))
  row_some y x0 (suc n) (suc k) x l e passes h =
      let here : q (at y x0) ≡ false = h x0 (omega arith) (omega arith) in
      rw here (row_some y (x0 + 1) n k x (omega arith) (omega arith) passes (λ z a b. h z (omega arith) b))

  row_found : (y x0 n : ℕ) → find q (map (at y) (range_with_len x0 n)) ≡ None → (x : ℕ) → x0 ≤ x → x < x0 + n → q (at y x) ≡ false
  row_found y x0 zero e x a b = absurd (omega arith)
  row_found y x0 (suc n) e x a b =
      let (here, rest) = neither (q (at y x0)) (at y x0) (find q (map (at y) (range_with_len (x0 + 1) n))) e in
      elim (first_or_later x0 x a) [
        | inl same ↦ subst (λ (z : ℕ). q (at y z) ≡ false) same here
        | inr later ↦ row_found y (x0 + 1) n rest x later (omega arith)
      ]
    where
      neither : (b : Bool) (p : Place) (o : Option Place) → cond b (Some p) o ≡ None → (b ≡ false) × (o ≡ None)
      neither true p o e = absurd cc
      neither false p o e = (refl, e)

  -- ---- rows of a rectangle

  abbrev row_of : ℕ → ℕ → ℕ → Option Place
  row_of y x0 n = find q (map (at y) (range_with_len x0 n))

  first_row : (x0 n y0 m : ℕ) → find q (raster x0 n y0 (suc m)) ≡ option_or (row_of y0 x0 n) (find q (raster x0 n (y0 + 1) m))
  first_row x0 n y0 m = find-append q (map (at y0) (range_with_len x0 n)) (raster x0 n (y0 + 1) m)

  -- nothing is found where no place passes
  pub none_passes : (x0 n y0 m : ℕ) → ((x y : ℕ) → x0 ≤ x → x < x0 + n → y0 ≤ y → y < y0 + m → q (at y x) ≡ false) → find q (raster x0 n y0 m) ≡ None
  none_passes x0 n y0 zero h = refl
  none_passes x0 n y0 (suc m) h =
      let here : row_of y0 x0 n ≡ None = row_none y0 x0 n (λ x a b. h x y0 a b (omega arith) (omega arith)) in
      first_row x0 n y0 m ∙ ap (λ o. option_or o (find q (raster x0 n (y0 + 1) m))) here
      ∙ none_passes x0 n (y0 + 1) m (λ x y a b c d. h x y a b (omega arith) (omega arith))

  -- the first that passes is found: no place of the rows above does, nor one before it in its row
  pub first_passes : (x0 n y0 m k j x y : ℕ) → k < n → j < m → x ≡ x0 + k → y ≡ y0 + j → q (at y x) ≡ true
      → ((z : ℕ) → x0 ≤ z → z < x → q (at y z) ≡ false) → ((z r : ℕ) → x0 ≤ z → z < x0 + n → y0 ≤ r → r < y → q (at r z) ≡ false)
      → find q (raster x0 n y0 m) ≡ Some (at y x)
  first_passes x0 n y0 zero k j x y l m e f passes before above = absurd (omega arith)
  first_passes x0 n y0 (suc m) k zero x y l lm e f passes before above =
      let same : y ≡ y0 = omega arith in
      let here : row_of y x0 n ≡ Some (at y x) = row_some y x0 n k x l e passes before in
      first_row x0 n y0 m ∙ ap (λ (r : ℕ). option_or (row_of r x0 n) (find q (raster x0 n (y0 + 1) m))) (sym same)
      ∙ ap (λ o. option_or o (find q (raster x0 n (y0 + 1) m))) here
  first_passes x0 n y0 (suc m) k (suc j) x y l lm e f passes before above =
      let here : row_of y0 x0 n ≡ None = row_none y0 x0 n (λ z a b. above z y0 a b (omega arith) (omega arith)) in
      first_row x0 n y0 m ∙ ap (λ o. option_or o (find q (raster x0 n (y0 + 1) m))) here
      ∙ first_passes x0 n (y0 + 1) m k j x y l (omega arith) e (omega arith) passes before (λ z r a b c d. above z r a b (omega arith) d)

  -- where nothing is found no place passes
  pub nothing_passes : (x0 n y0 m : ℕ) → find q (raster x0 n y0 m) ≡ None → (x y : ℕ) → x0 ≤ x → x < x0 + n → y0 ≤ y → y < y0 + m → q (at y x) ≡ false
  nothing_passes x0 n y0 zero e x y a b c d = absurd (omega arith)
  nothing_passes x0 n y0 (suc m) e x y a b c d =
      let (here, rest) = both (row_of y0 x0 n) (find q (raster x0 n (y0 + 1) m)) (sym (first_row x0 n y0 m) ∙ e) in
      elim (first_or_later y0 y c) [
        | inl same ↦ subst (λ (r : ℕ). q (at r x) ≡ false) same (row_found y0 x0 n here x a b)
        | inr later ↦ nothing_passes x0 n (y0 + 1) m rest x y a b later (omega arith)
      ]
    where
      both : (o r : Option Place) → option_or o r ≡ None → (o ≡ None) × (r ≡ None)
      both None r e = (refl, e)
      both (Some p) r e = absurd cc
