-- The second half of the words, as it is written, and the network on both halves.
use Rattle.std.proofs.Common.{ℕ, zero, suc, false, ◌≡◌, ◌-◌, ◌*◌, ◌^◌, ◌≤◌, ℤ, pos, List, [], ◌∷◌, ◌++◌, take, drop, length, arith, ap, sym, subst, refl, ◌∙◌}
use Rattle.std.proofs.Common.{inl, inr}
use Rattle.std.proofs.lemmas.Bool.{cases_lt}
use Rattle.std.proofs.lemmas.List.{take_at, drop_at, drop_all, append-nil, length-drop, map-append, take-map, drop-map, get_or_append_left, get_or-append_right}
use Rattle.std.proofs.lemmas.List.FromFn.{length-map-range_with_len}
use Rattle.std.proofs.Math.Nat.{pow-suc}
use Rattle.av1_dct.specs.Arithmetic.{AllFit, FitsBits, at}
use Rattle.av1_dct.specs.Word.{column}
use Rattle.av1_dct.specs.Cosine.{outer_turn, mirror_sum, rounds, cosine, cosine_with}
use Rattle.av1_lists.specs.Lists.{by_index}
use Rattle.av1_dct.specs.InPlace.{joined, network}
use Rattle.av1_dct.proofs.Groups.{take-fits, drop-fits}
use Rattle.av1_dct.proofs.Fits.{zero_fits, half_btf-fits, by_index-fits, mirror_sum-fits}

-- what a slice of 2m elements is after a write of its second half
abbrev pub second_set : {X : Type 0} → ℕ → List X → List X → List X
second_set m o w = take m w ++ (o ++ drop (length w - m) (drop m w))

pub second_set_is : {X : Type 0} (m : ℕ) (o w : List X) → second_set m o w ≡ take m w ++ o
second_set_is m o w =
    let none : drop (length w - m) (drop m w) ≡ [] = drop_all (length w - m) (drop m w) (omega (arith, length-drop m w)) in
    ap (λ xs. take m w ++ (o ++ xs)) none ∙ ap (λ xs. take m w ++ xs) (append-nil o)

pub append-fits : (xs ys : List ℤ) → AllFit 20 xs → AllFit 20 ys → AllFit 20 (xs ++ ys)
append-fits xs ys hx hy = λ i.
    let P : ℤ → Type 0 = λ z. FitsBits 20 z in
    elim (cases_lt i (length xs)) [
      | inl h ↦ subst P (sym (get_or_append_left xs ys (pos 0) i h)) (hx i)
      | inr h ↦ subst P (sym (get_or-append_right xs ys (length xs) i (pos 0) refl h)) (hy (i - length xs))
    ]

pub two_fit : (x y : ℤ) → FitsBits 20 x → FitsBits 20 y → (i : ℕ) → FitsBits 20 (at (x ∷ y ∷ []) i)
two_fit x y hx hy zero = hx
two_fit x y hx hy (suc zero) = hy
two_fit x y hx hy (suc (suc i)) = zero_fits 20

pub second_set-fits : {W : Type 0} (lane : W → ℕ → ℤ) (i m : ℕ) (o w : List W) → AllFit 20 (column lane i o) → AllFit 20 (column lane i w) →
    AllFit 20 (column lane i (second_set m o w))
second_set-fits {W} lane i m o w fo fw =
    let P : List ℤ → Type 0 = λ zs. AllFit 20 zs in
    subst P (sym (ap (column lane i) (second_set_is m o w) ∙ map-append (λ (x : W). lane x i) (take m w) o)) (append-fits _ _ (take-fits lane i m w fw) fo)

pub network-length : (range k : ℕ) (w : List ℤ) → length (network range k w) ≡ 2 * 2 ^ k
unfolding network
network-length range zero w = refl
network-length range (suc k) w = length-map-range_with_len _ 0 (2 * 2 ^ suc k)

pub network-fits : (range k : ℕ) (w : List ℤ) → range ≤ 20 → AllFit 20 (network range k w)
unfolding network
network-fits range zero w h = two_fit _ _ (half_btf-fits _ _ _ _) (half_btf-fits _ _ _ _)
network-fits range (suc k) w h = by_index-fits _ _ (λ i. mirror_sum-fits range _ _ _ i h)

-- a network is that of the first half, joined with the second
network-joined : (range k : ℕ) (w : List ℤ) → joined range (suc k) (network range k (take (2 ^ suc k) w) ++ drop (2 ^ suc k) w) ≡ network range (suc k) w
unfolding network
network-joined range k w =
    let m = 2 ^ suc k in
    let even = network range k (take m w) in
    let len : length even ≡ m = network-length range k (take m w) ∙ omega (arith, pow-suc 2 k) in
    let pred : suc k - 1 ≡ k = omega arith in
    let join = λ (x y : List ℤ) (n : ℕ). by_index (2 * m) (mirror_sum range false m (x ++ rounds range (suc k) n (by_index m (outer_turn (suc k) y)))) in
    ap (λ x. join x (drop m (even ++ drop m w)) (suc k - 1)) (take_at even (drop m w) m len)
    ∙ ap (λ y. join even y (suc k - 1)) (drop_at even (drop m w) m len)
    ∙ ap (λ n. join even (drop m w) n) pred

-- words whose first half became e, and which then were joined to f
pub network_words : {W : Type 0} (lane : W → ℕ → ℤ) (i range k m : ℕ) (w e f : List W) → m ≡ 2 ^ suc k
    → column lane i e ≡ network range k (column lane i (take m w))
    → column lane i f ≡ joined range (suc k) (column lane i (e ++ drop m w))
    → column lane i f ≡ network range (suc k) (column lane i w)
network_words {W} lane i range k m w e f hm is_e is_f =
    let g = λ (x : W). lane x i in
    let zs = column lane i w in
    let even : column lane i e ≡ network range k (take (2 ^ suc k) zs) = is_e ∙ ap (network range k) (sym (take-map g m w) ∙ ap (λ n. take n zs) hm) in
    let rest : column lane i (drop m w) ≡ drop (2 ^ suc k) zs = sym (drop-map g m w) ∙ ap (λ n. drop n zs) hm in
    is_f
    ∙ ap (joined range (suc k)) (map-append g e (drop m w) ∙ ap (λ ys. ys ++ column lane i (drop m w)) even
    ∙ ap (λ ys. network range k (take (2 ^ suc k) zs) ++ ys) rest)
    ∙ network-joined range k zs

-- and such words fit before they are joined
pub half-fits : {W : Type 0} (lane : W → ℕ → ℤ) (i range k m : ℕ) (w e : List W) → range ≤ 20 → AllFit 20 (column lane i w) →
    column lane i e ≡ network range k (column lane i (take m w)) → AllFit 20 (column lane i (e ++ drop m w))
half-fits {W} lane i range k m w e h fit is_e =
    let P : List ℤ → Type 0 = λ zs. AllFit 20 zs in
    let g = λ (x : W). lane x i in
    subst P (sym (map-append g e (drop m w))) (append-fits _ _ (subst P (sym is_e) (network-fits range k _ h)) (drop-fits lane i m w fit))

pub cosine-fits : (range k : ℕ) (x : List ℤ) → range ≤ 20 → AllFit 20 (cosine range k x)
unfolding cosine_with
cosine-fits range zero x h = two_fit _ _ (half_btf-fits _ _ _ _) (half_btf-fits _ _ _ _)
cosine-fits range (suc k) x h = by_index-fits _ _ (λ i. mirror_sum-fits range _ _ _ i h)

pub cosine-length : (range k : ℕ) (x : List ℤ) → length (cosine range k x) ≡ 2 * 2 ^ k
unfolding cosine_with
cosine-length range zero x = refl
cosine-length range (suc k) x = length-map-range_with_len _ 0 (2 * 2 ^ suc k)
