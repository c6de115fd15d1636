-- Sides as functions of the entry.
use Rattle.std.proofs.Common.{ℕ, ◌+◌, ◌-◌, ◌*◌, ◌<◌, ◌≤◌, ◌≡◌, List, ◌∷◌, length, get_or, map, take, reverse, replicate, ap, arith, ◌∙◌, sym, inl, inr, add-one}
use mathlib.Core.Path.{fun_ext}
use Rattle.std.proofs.lemmas.Bool.Decides.{nat_tests}
use Rattle.std.proofs.lemmas.Bool.{cases_lt}
use Rattle.std.proofs.lemmas.List.{get_or-map, get_or_past, map-id, get_or-replicate, length-replicate, length-map, get_or-reverse, get_or-take, places}
use Rattle.av1_frame.specs.Samples.{paint_row}
use Rattle.av1_frame.proofs.Update.{length-update, get_or-update}
use Rattle.av1_intra.specs.Sides.{Side, entries, numbers}
use Rattle.av1_intra.specs.Directional.{side}
use Rattle.av1_intra.specs.EdgeFilter.{filtered}

-- a list whose first w entries were painted by a side, which is the list's own side from there on
pub entries_painted : (w : ℕ) (F : Side) (s t : List ℕ) → t ≡ paint_row w (λ e _. F e) s → w ≤ length s → ((e : ℕ) → w ≤ e → F e ≡ entries s e) → entries t ≡ F
unfolding paint_row
entries_painted w F s t q l h =
    fun_ext (λ e. ap (λ u. get_or u e 0) q ∙ elim (cases_lt e w) [
      | inl b ↦ (get_or-update _ s e 0 (omega arith) ∙ grind (arith, nat_tests))
      | inr b ↦ elim (cases_lt e (length s)) [
        | inl c ↦ (let r = h e b in get_or-update _ s e 0 c ∙ grind (arith, nat_tests))
        | inr c ↦ (let r = h e b in get_or_past _ e 0 (omega (arith, length-update)) ∙ sym (get_or_past s e 0 c) ∙ sym r)
      ]
    ])

pub zeros : (n e : ℕ) → entries (replicate n 0) e ≡ 0
zeros n e =
    elim (cases_lt e n) [
      | inl b ↦ get_or-replicate n e 0 0 b
      | inr b ↦ get_or_past _ e 0 (omega (arith, length-replicate {A = ℕ}))
    ]

-- a list of zeros into which a side was painted
pub entries_filled : (w n : ℕ) (F : Side) (t : List ℕ) → t ≡ paint_row w (λ e _. F e) (replicate n 0) → w ≤ n → ((e : ℕ) → w ≤ e → F e ≡ 0) → entries t ≡ F
entries_filled w n F t q l h =
    entries_painted w F (replicate n 0) t q (omega (arith, length-replicate {A = ℕ})) (λ e m. h e m ∙ sym (zeros n e))

-- what the filter leaves of a list
pub entries_filtered : (size n s : ℕ) (old t : List ℕ) → t ≡ paint_row size (λ e _. filtered (size - 1) s (numbers (λ x. x) old) e) old → size ≡ n + 1 →
    size ≤ length old → entries t ≡ filtered n s (entries old)
unfolding filtered
entries_filtered size n s old t q e l =
    let m : size - 1 ≡ n = omega arith in
    let r : numbers (λ (x : ℕ). x) old ≡ entries old = ap entries (map-id old) in
    let a : t ≡ paint_row size (λ e _. filtered n s (entries old) e) old = q ∙ ap (λ v. paint_row size (λ e _. filtered v s (numbers (λ x. x) old) e) old) m
    ∙ ap (λ v. paint_row size (λ e _. filtered n s v e) old) r in
    entries_painted size (filtered n s (entries old)) old t a l (λ k h. grind (arith, nat_tests))

-- what the filter leaves past the places that it smooths
pub kept_past : (n strength e : ℕ) (A : Side) → n < e → filtered n strength A e ≡ A e
unfolding filtered
kept_past n strength e A h = grind (arith, nat_tests)

-- a side that holds n places is 0 past them, and holds the number of each
pub side_past : (x n e : ℕ) (xs : List ℕ) → n + 1 ≤ e → entries (x ∷ take n xs) e ≡ 0
side_past x n e xs h = get_or_past (x ∷ take n xs) e 0 (grind (arith, places))

pub side_place : {X : Type 0} (num : X → ℕ) (corner x : X) (n k y : ℕ) (xs : List X) → k < n → n ≤ length xs → x ≡ get_or xs k x → y ≡ num x →
    y ≡ side (num corner) (take n (map num xs)) (k + 1)
side_place num corner x n k y xs h l r q =
    q ∙ ap num r ∙ sym (get_or-map num xs k x 0 (omega arith)) ∙ sym (get_or-take n (map num xs) k 0 h)
    ∙ sym (ap (λ v. get_or (num corner ∷ take n (map num xs)) v 0) (add-one k))

pub left_place : {X : Type 0} (num : X → ℕ) (corner x : X) (n k y : ℕ) (xs : List X) → k < n → n ≤ length xs → x ≡ get_or xs (length xs - 1 - k) x → y ≡ num x →
    y ≡ side (num corner) (take n (reverse (map num xs))) (k + 1)
left_place num corner x n k y xs h l r q =
    let m : length (map num xs) ≡ length xs = simp length-map in
    q ∙ ap num r ∙ sym (get_or-map num xs (length xs - 1 - k) x 0 (omega arith)) ∙ ap (λ v. get_or (map num xs) (v - 1 - k) 0) (sym m)
    ∙ sym (get_or-reverse (map num xs) k 0 (omega arith)) ∙ sym (get_or-take n (reverse (map num xs)) k 0 h)
    ∙ sym (ap (λ v. get_or (num corner ∷ take n (reverse (map num xs))) v 0) (add-one k))
