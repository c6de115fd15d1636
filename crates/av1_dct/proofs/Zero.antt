-- The transform of zeros is zeros.
use Rattle.std.proofs.Common.{ℕ, zero, suc, Bool, true, false, cond, ◌≡◌, ◌+◌, ◌-◌, ◌*◌, ◌/◌, ◌%◌, ◌^◌, ◌||◌, nat_lt, nat_le, min, ℤ, pos, ◌+ℤ◌, ◌-ℤ◌, ◌*ℤ◌}
use Rattle.std.proofs.Common.{List, [], ◌∷◌, ◌++◌, take, drop, length, arith, ap, refl, ◌∙◌, inl, inr, sym, replicate}
use Rattle.std.specs.Int.{int_wrap, int_shr}
use Rattle.std.proofs.lemmas.Int.{ints, clamps}
use Rattle.std.proofs.lemmas.Nat.{pow_pos}
use Rattle.std.proofs.lemmas.Bool.{cases_lt}
use Rattle.std.proofs.lemmas.List.{get_or_past, get_or_append_left, get_or-append_right, get_or-take, get_or-drop, length-take, length-replicate}
use Rattle.std.proofs.lemmas.List.{get_or-replicate, ext_get_or}
use Rattle.std.proofs.lemmas.List.FromFn.{length-map-range_with_len}
use Rattle.av1_dct.specs.Arithmetic.{at, clamp_value, wrap32}
use Rattle.av1_dct.specs.Operations.{half_btf, half_btf_with}
use Rattle.av1_dct.specs.Cosine.{evens, odds, outer_turn, mirror_sum, group_sum, inner_turn, rounds, odd_half, cosine, cosine_with, odd_half_with}
use Rattle.av1_dct.specs.Cosine.{group_sum_with}
use Rattle.av1_dct.specs.Cosine.{inner_turn_with, mirror_sum_with, outer_turn_with, rounds_with}
use Rattle.av1_lists.specs.Lists.{by_index}
use Rattle.av1_dct.proofs.Halves.{cosine-length}
use Rattle.av1_dct.proofs.Places.{at-by_index}

-- each place reads 0
pub record IsZero (v : List ℤ) : Type 0 where
  pub at : (i : ℕ) → at v i ≡ pos 0

rounded : int_shr (wrap32 (pos 2048)) 12 ≡ pos 0
unfolding int_wrap
rounded = refl

nothing : (w0 w1 : ℤ) → w0 *ℤ pos 0 +ℤ w1 *ℤ pos 0 +ℤ pos 2048 ≡ pos 2048
nothing w0 w1 = omega (arith, ints)

pub half_btf-zero : (w0 a w1 b : ℤ) → a ≡ pos 0 → b ≡ pos 0 → half_btf w0 a w1 b ≡ pos 0
unfolding half_btf_with
half_btf-zero w0 a w1 b ha hb =
    ap (λ z. int_shr (wrap32 (w0 *ℤ z +ℤ w1 *ℤ b +ℤ pos 2048)) 12) ha
    ∙ ap (λ z. int_shr (wrap32 (w0 *ℤ pos 0 +ℤ w1 *ℤ z +ℤ pos 2048)) 12) hb
    ∙ ap (λ z. int_shr (wrap32 z) 12) (nothing w0 w1) ∙ rounded

pub clamp-zero : (z : ℤ) (b : ℕ) → z ≡ pos 0 → clamp_value z b ≡ pos 0
unfolding clamp_value
clamp-zero z b h = let some = pow_pos (b - 1) in omega (arith, ints, clamps)

pub sum-zero : (x y : ℤ) → x ≡ pos 0 → y ≡ pos 0 → (x +ℤ y ≡ pos 0) × (x -ℤ y ≡ pos 0)
sum-zero x y hx hy = (omega (arith, ints), omega (arith, ints))

pub cond-zero : (b : Bool) (x y : ℤ) → x ≡ pos 0 → y ≡ pos 0 → cond b x y ≡ pos 0
cond-zero b x y hx hy = elim b as (λ v. cond v x y ≡ pos 0) [ true ↦ hx | false ↦ hy ]

pub by_index-zero : (n : ℕ) (f : ℕ → ℤ) → ((i : ℕ) → f i ≡ pos 0) → IsZero (by_index n f)
by_index-zero n f h = record {
  at = λ i. elim (cases_lt i n) [
    | inl g ↦ at-by_index n f i g ∙ h i
    | inr g ↦ get_or_past (by_index n f) i (pos 0) (omega (arith, length-map-range_with_len f 0 n))
  ];
}

append-zero : (xs ys : List ℤ) → IsZero xs → IsZero ys → IsZero (xs ++ ys)
append-zero xs ys hx hy = record {
  at = λ i. elim (cases_lt i (length xs)) [
    | inl h ↦ get_or_append_left xs ys (pos 0) i h ∙ hx.at i
    | inr h ↦ get_or-append_right xs ys (length xs) i (pos 0) refl h ∙ hy.at (i - length xs)
  ];
}

part-zero : (a k : ℕ) (xs : List ℤ) → IsZero xs → IsZero (take k (drop a xs))
part-zero a k xs h = record {
  at = λ i. elim (cases_lt i k) [
    | inl l ↦ get_or-take k (drop a xs) i (pos 0) l ∙ get_or-drop a xs i (pos 0) ∙ h.at (a + i)
    | inr l ↦ get_or_past (take k (drop a xs)) i (pos 0) (omega (arith, length-take k (drop a xs)))
  ];
}

outer-zero : (k : ℕ) (v : List ℤ) (i : ℕ) → IsZero v → outer_turn k v i ≡ pos 0
unfolding outer_turn_with
outer-zero k v i h = cond-zero _ _ _ (half_btf-zero _ _ _ _ (h.at _) (h.at _)) (half_btf-zero _ _ _ _ (h.at _) (h.at _))

mirror-zero : (range : ℕ) (odd : Bool) (m : ℕ) (v : List ℤ) (i : ℕ) → IsZero v → mirror_sum range odd m v i ≡ pos 0
unfolding mirror_sum_with
mirror-zero range odd m v i h =
    cond-zero _ _ _ (clamp-zero _ range (sum-zero _ _ (h.at i) (h.at (2 * m - 1 - i))).0) (clamp-zero _ range (sum-zero _ _ (h.at (2 * m - 1 - i)) (h.at i)).1)

group-zero : (range m : ℕ) (v : List ℤ) (i : ℕ) → IsZero v → group_sum range m v i ≡ pos 0
unfolding group_sum_with
group-zero range m v i h = mirror-zero range _ m _ _ (part-zero _ _ v h)

inner-zero : (k j : ℕ) (v : List ℤ) (i : ℕ) → IsZero v → inner_turn k j v i ≡ pos 0
unfolding inner_turn_with
inner-zero k j v i h =
    let m = 2 ^ k in
    let r = min i (m - 1 - i) % (4 * 2 ^ j) in
    let first = nat_lt r (2 * 2 ^ j) in
    let turned = λ (w0 w1 : ℤ) (p q : ℕ). half_btf-zero w0 (at v p) w1 (at v q) (h.at p) (h.at q) in
    cond-zero (nat_lt r (2 ^ j) || nat_le (3 * 2 ^ j) r) _ _ (h.at i)
    (cond-zero (nat_lt i (m / 2)) _ _
    (cond-zero first _ _ (turned _ _ _ _) (turned _ _ _ _))
    (cond-zero first _ _ (turned _ _ _ _) (turned _ _ _ _)))

rounds-zero : (range k j : ℕ) (v : List ℤ) → IsZero v → IsZero (rounds range k j v)
unfolding rounds_with
rounds-zero range k zero v h = h
rounds-zero range k (suc j) v h =
    let w = rounds-zero range k j v h in
    by_index-zero _ _ (λ i. inner-zero k j _ i (by_index-zero _ _ (λ p. group-zero range (2 ^ j) _ p w)))

two-zero : (x y : ℤ) → x ≡ pos 0 → y ≡ pos 0 → (i : ℕ) → at (x ∷ y ∷ []) i ≡ pos 0
two-zero x y hx hy zero = hx
two-zero x y hx hy (suc zero) = hy
two-zero x y hx hy (suc (suc i)) = refl

-- what becomes of odd inputs that are zeros
pub odd_half-zero : (range k : ℕ) (y : List ℤ) → IsZero y → IsZero (odd_half range k y)
unfolding odd_half_with
odd_half-zero range k y h =
    rounds-zero range (suc k) k _ (by_index-zero _ _ (λ i. outer-zero (suc k) _ i (by_index-zero (2 ^ suc k) _ (λ p. h.at _))))

pub cosine-zero : (range k : ℕ) (x : List ℤ) → IsZero x → IsZero (cosine range k x)
unfolding cosine_with
cosine-zero range zero x h = record { at = two-zero _ _ (half_btf-zero _ _ _ _ (h.at 0) (h.at 1)) (half_btf-zero _ _ _ _ (h.at 0) (h.at 1)) }
cosine-zero range (suc k) x h =
    let m = 2 ^ suc k in
    let even = cosine-zero range k (evens m x) (by_index-zero _ _ (λ i. h.at (2 * i))) in
    let odd = odd_half-zero range k (odds m x) (by_index-zero m _ (λ q. h.at (2 * q + 1))) in
    by_index-zero _ _ (λ i. mirror-zero range false m _ i (append-zero _ _ even odd))

pub zeros : (range k : ℕ) → cosine range k (replicate (2 * 2 ^ k) (pos 0)) ≡ replicate (2 * 2 ^ k) (pos 0)
zeros range k =
    let n = 2 * 2 ^ k in
    let none : IsZero (replicate n (pos 0)) = record {
      at = λ i. elim (cases_lt i n) [
        | inl h ↦ get_or-replicate n i (pos 0) (pos 0) h
        | inr h ↦ get_or_past (replicate n (pos 0)) i (pos 0) (omega (arith, length-replicate n (pos 0)))
      ];
    } in
    ext_get_or (pos 0) _ _ (cosine-length range k _ ∙ sym (length-replicate n (pos 0))) (λ i h. (cosine-zero range k _ none).at i ∙ sym (none.at i))
