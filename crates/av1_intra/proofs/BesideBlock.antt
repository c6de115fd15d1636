-- The samples of a left side that lie beside a block.
use Rattle.std.proofs.Common.{ℕ, ◌+◌, ◌-◌, ◌/◌, ◌<◌, ◌≤◌, ◌≡◌, List, ◌++◌, length, get_or, take, drop, map, reverse, sum, arith, ap, ◌∙◌, sym, subst, refl, eqb}
use Rattle.std.proofs.Common.{true, false}
use Rattle.std.proofs.lemmas.List.{take-append-drop, reverse-append, take-map, drop-map, length-map, length-append, length-reverse, length-drop, get_or-reverse}
use Rattle.std.proofs.lemmas.List.{get_or-drop}
use Rattle.std.proofs.lemmas.List.Sums.{sum_by-append}
use Rattle.std.proofs.lemmas.List.Sorted.{sum_by-IsPermutation, IsPermutation-reverse}
use Rattle.std.proofs.Math.Seq.{take-append_seam}
use Rattle.std.proofs.lemmas.Bool.Decides.{nat_tests}
use Rattle.av1_blocks.specs.declared.predict.PredictionMode.{PredictionMode}
use Rattle.av1_blocks.specs.declared.predict.PredictionMode.TheVariants.{SMOOTH_PRED, SMOOTH_V_PRED, SMOOTH_H_PRED}
use Rattle.av1_edges.specs.Edges.{Edge}
use Rattle.av1_intra.specs.declared.directional.DirectionalBlock.{DirectionalBlock}
use Rattle.av1_intra.specs.Paeth.{paeth}
use Rattle.av1_intra.specs.Predicted.{smoothly, along}
use Rattle.av1_intra.specs.Sides.{from_top, entries}
use Rattle.av1_intra.specs.Dc.{mean}
use Rattle.av1_intra.specs.Smooth.{smooth, smooth_v, smooth_h}

-- the first h of a list from its end
pub take_reverse : (h : ℕ) (xs : List ℕ) → h ≤ length xs → take h (reverse xs) ≡ reverse (drop (length xs - h) xs)
take_reverse h xs l =
    let n = length xs - h in
    let e : reverse xs ≡ reverse (drop n xs) ++ reverse (take n xs) = ap reverse (sym (take-append-drop n xs)) ∙ reverse-append (take n xs) (drop n xs) in
    let m : length (reverse (drop n xs)) ≡ h = length-reverse (drop n xs) ∙ (length-drop n xs ∙ omega arith) in
    ap (take h) e
    ∙ subst (λ k. take k (reverse (drop n xs) ++ reverse (take n xs)) ≡ reverse (drop n xs)) m
    (take-append_seam (reverse (drop n xs)) (reverse (take n xs)))

sum_reverse : (xs : List ℕ) → sum (reverse xs) ≡ sum xs
sum_reverse xs = sum_by-IsPermutation (λ x. x) xs (reverse xs) (IsPermutation-reverse xs)

-- the mean doesn't depend on the order
pub mean_reversed : (xs ys : List ℕ) → mean (reverse xs ++ ys) ≡ mean (xs ++ ys)
mean_reversed xs ys =
    let s : sum (reverse xs ++ ys) ≡ sum (xs ++ ys) = sum_by-append (λ x. x) (reverse xs) ys ∙ ap (λ n. n + sum ys) (sum_reverse xs)
    ∙ sym (sum_by-append (λ x. x) xs ys) in
    let l : length (reverse xs ++ ys) ≡ length (xs ++ ys) = length-append (reverse xs) ys ∙ ap (λ n. n + length ys) (length-reverse xs)
    ∙ sym (length-append xs ys) in
    ap (λ n. (n + length (reverse xs ++ ys) / 2) / length (reverse xs ++ ys)) s ∙ ap (λ n. (sum (xs ++ ys) + n / 2) / n) l

mean_reverse : (xs : List ℕ) → mean (reverse xs) ≡ mean xs
mean_reverse xs =
    ap (λ n. (n + length (reverse xs) / 2) / length (reverse xs)) (sum_reverse xs) ∙ ap (λ n. (sum xs + n / 2) / n) (length-reverse xs)

module _ {X : Type 0} (num : X → ℕ) (left side : List X) (h : ℕ) (e : side ≡ drop (length left - h) left) (l : h ≤ length left) where
  beside_numbers : map num side ≡ drop (length left - h) (map num left)
  beside_numbers = ap (map num) e ∙ sym (drop-map num (length left - h) left)

  -- from the top down they are the first of the side
  beside_reversed : take h (reverse (map num left)) ≡ reverse (map num side)
  beside_reversed =
      let n : length (map num left) ≡ length left = length-map left num in
      take_reverse h (map num left) (omega (arith, n)) ∙ ap (λ k. reverse (drop (k - h) (map num left))) n ∙ ap reverse (sym beside_numbers)

  pub mean_beside : mean (map num side) ≡ mean (take h (reverse (map num left)))
  mean_beside = sym (ap mean beside_reversed ∙ mean_reverse (map num side))

  pub mean_both : (w : ℕ) (above : List X) → mean (map num side ++ map num (take w above)) ≡ mean (take h (reverse (map num left)) ++ take w (map num above))
  mean_both w above =
      sym (mean_reversed (map num side) (map num (take w above)))
      ∙ ap (λ xs. mean (xs ++ map num (take w above))) (sym beside_reversed)
      ∙ ap (λ xs. mean (take h (reverse (map num left)) ++ xs)) (sym (take-map num w above))

  pub from_top_beside : (r : ℕ) → r < h → from_top num h side r ≡ entries (reverse (map num left)) r
  from_top_beside r m =
      let n : length (map num left) ≡ length left = length-map left num in
      let i : length left - h + (h - 1 - r) ≡ length (map num left) - 1 - r = omega (arith, n) in
      ap (λ xs. get_or xs (h - 1 - r) 0) beside_numbers ∙ get_or-drop (length left - h) (map num left) (h - 1 - r) 0 ∙ ap (λ k. get_or (map num left) k 0) i
      ∙ sym (get_or-reverse (map num left) r 0 (omega (arith, n)))

-- smooth prediction by two left sides that agree on the row and on the last one
module _ (w h : ℕ) (A L M : ℕ → ℕ) (r c : ℕ) (e : L r ≡ M r) (d : L (h - 1) ≡ M (h - 1)) where
  pub smooth_same : smooth w h A L r c ≡ smooth w h A M r c
  smooth_same = rw (e, d) refl

  pub smooth_v_same : smooth_v h A L r c ≡ smooth_v h A M r c
  smooth_v_same = rw d refl

  pub smooth_h_same : smooth_h w A L r c ≡ smooth_h w A M r c
  smooth_h_same = rw e refl

-- a mode that mixes nothing takes the nearest neighbour
pub smoothly_nearest : (mode : PredictionMode) (w h : ℕ) (e : Edge) (r c : ℕ) → (mode ≡ SMOOTH_PRED → ⊥) → (mode ≡ SMOOTH_V_PRED → ⊥) →
    (mode ≡ SMOOTH_H_PRED → ⊥) → paeth (entries e.above c) (entries e.left r) e.corner ≡ smoothly mode w h e r c
smoothly_nearest mode w h e r c =
    elim mode as (λ m. (m ≡ SMOOTH_PRED → ⊥) → (m ≡ SMOOTH_V_PRED → ⊥) → (m ≡ SMOOTH_H_PRED → ⊥) →
    paeth (entries e.above c) (entries e.left r) e.corner ≡ smoothly m w h e r c) [
      | SMOOTH_PRED ↦ λ x y z. absurd (x refl)
      | SMOOTH_V_PRED ↦ λ x y z. absurd (y refl)
      | SMOOTH_H_PRED ↦ λ x y z. absurd (z refl)
      | _ ↦ λ x y z. refl
    ]

-- straight to the right
pub along_180 : (b : DirectionalBlock) (e : Edge) (r c : ℕ) → b.p_angle ≡ 180 → along b e r c ≡ entries e.left r
along_180 b e r c h =
    let t : eqb b.p_angle 90 ≡ false = grind (arith, nat_tests) in
    let u : eqb b.p_angle 180 ≡ true = grind (arith, nat_tests) in
    rw (t, u) refl
