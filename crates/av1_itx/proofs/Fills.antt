-- Lists that a loop fills from the front, in place.
use Rattle.std.proofs.Common.{ℕ, ◌≡◌, ◌+◌, ◌*◌, ◌<◌, ◌≤◌, ℤ, pos, List, [], ◌∷◌, map, take, drop, length, set, get_or, arith, ap, sym, subst, refl, ◌∙◌, inl}
use Rattle.std.proofs.Common.{inr, get_or-set_other}
use Rattle.std.specs.List.{range_with_len}
use Rattle.std.proofs.lemmas.Bool.{cases_lt}
use Rattle.std.proofs.lemmas.List.FromFn.{fill_by_all, get_or-map-range_with_len}
use Rattle.std.proofs.lemmas.Grind.{get_or-set_at}
use Rattle.std.proofs.lemmas.List.{length-set, length-take, length-drop}
use Rattle.av1_dct.specs.Arithmetic.{at, AllFit, FitsBits}
use Rattle.av1_lists.specs.Lists.{by_index}
use Rattle.av1_dct.proofs.Begun.{IsBegun}

-- one more place
pub fill_more : (f : ℕ → ℤ) (xs : List ℤ) (i : ℕ) (v : ℤ) → i < length xs → ((k : ℕ) → k < i → at xs k ≡ f k) → v ≡ f i → (k : ℕ) → k < i + 1 →
    at (set xs i v) k ≡ f k
fill_more f xs i v h below here = λ k lt. grind (arith, get_or-set_at, get_or-set_other, length-set, below k)

-- all places
pub filled : (n : ℕ) (f : ℕ → ℤ) (xs : List ℤ) (p : ℕ) → length xs ≡ n → n ≤ p → ((k : ℕ) → k < p → at xs k ≡ f k) → xs ≡ by_index n f
filled n f xs p len le all = fill_by_all f xs n (pos 0) len (λ k h. all k (omega arith))

pub IsBegun-start : (n : ℕ) (f : ℕ → ℤ) (v : List ℤ) (p : ℕ) → length v ≡ n → p ≡ 0 → IsBegun n f v p v
IsBegun-start n f v p len none = record { len = len; low = λ i h. absurd (omega arith); rest = λ i h. refl }

-- one more pair
pub IsBegun-pair : (n : ℕ) (f : ℕ → ℤ) (old v : List ℤ) (p q r : ℕ) (x y : ℤ) → IsBegun n f old p v → q ≡ p + 1 → r ≡ p + 2 → q < n → x ≡ f p → y ≡ f q →
    IsBegun n f old r (set (set v p x) q y)
IsBegun-pair n f old v p q r x y h is_q is_r lt is_x is_y = record {
  len = grind (arith, h.len, length-set);
  low = λ i g. grind (arith, get_or-set_at, get_or-set_other, length-set, h.low i);
  rest = λ i g. grind (arith, get_or-set_at, get_or-set_other, length-set, h.rest i);
}

pub IsBegun-end : (n : ℕ) (f : ℕ → ℤ) (old : List ℤ) (p : ℕ) (v : List ℤ) → n ≤ p → IsBegun n f old p v → v ≡ by_index n f
IsBegun-end n f old p v le h = filled n f v p h.len le h.low

-- a loop over the places i and s + i has written the first j of both
pub record IsHalved (s : ℕ) (f : ℕ → ℤ) (old : List ℤ) (j : ℕ) (v : List ℤ) : Type 0 where
  pub len : length v ≡ 2 * s
  pub low : (i : ℕ) → i < j → at v i ≡ f i
  pub mid : (i : ℕ) → j ≤ i → i < s → at v i ≡ at old i
  pub high : (i : ℕ) → s ≤ i → i < s + j → at v i ≡ f i
  pub rest : (i : ℕ) → s + j ≤ i → at v i ≡ at old i

pub IsHalved-start : (s : ℕ) (f : ℕ → ℤ) (v : List ℤ) → length v ≡ 2 * s → IsHalved s f v 0 v
IsHalved-start s f v len = record {
  len = len;
  low = λ i h. absurd (omega arith);
  mid = λ i h g. refl;
  high = λ i h g. absurd (omega arith);
  rest = λ i h. refl;
}

pub IsHalved-more : (s : ℕ) (f : ℕ → ℤ) (old v : List ℤ) (j q : ℕ) (x y : ℤ) → IsHalved s f old j v → q ≡ j + s → j < s → x ≡ f j → y ≡ f q →
    IsHalved s f old (j + 1) (set (set v j x) q y)
IsHalved-more s f old v j q x y h is_q lt is_x is_y = record {
  len = grind (arith, h.len, length-set);
  low = λ i g. grind (arith, get_or-set_at, get_or-set_other, length-set, h.low i, h.len);
  mid = λ i g k. grind (arith, get_or-set_at, get_or-set_other, length-set, h.mid i, h.len);
  high = λ i g k. grind (arith, get_or-set_at, get_or-set_other, length-set, h.high i, h.len);
  rest = λ i g. grind (arith, get_or-set_at, get_or-set_other, length-set, h.rest i, h.len);
}

pub IsHalved-end : (s : ℕ) (f : ℕ → ℤ) (old : List ℤ) (j : ℕ) (v : List ℤ) → s ≤ j → IsHalved s f old j v → v ≡ by_index (2 * s) f
IsHalved-end s f old j v le h =
    fill_by_all f v (2 * s) (pos 0) h.len (λ i g. elim (cases_lt i s) [ inl k ↦ h.low i (omega arith) | inr k ↦ h.high i k (omega arith) ])

-- what a part of a list has
pub part_len : {X : Type 0} (a k : ℕ) (xs : List X) → a + k ≤ length xs → length (take k (drop a xs)) ≡ k
part_len a k xs h = omega (arith, length-take k (drop a xs), length-drop a xs)

-- what was read of places that a loop has left alone
pub pair_fits : (b : ℕ) (old v : List ℤ) (p q : ℕ) → at v p ≡ at old p → at v q ≡ at old q → AllFit b old → FitsBits b (at v p) × FitsBits b (at v q)
pair_fits b old v p q ep eq fit =
    let P : ℤ → Type 0 = λ z. FitsBits b z in
    (subst P (sym ep) (fit p), subst P (sym eq) (fit q))

pub four_same : (x y z w x' y' z' w' : ℤ) → x ≡ x' → y ≡ y' → z ≡ z' → w ≡ w' → x ∷ y ∷ z ∷ w ∷ [] ≡ x' ∷ y' ∷ z' ∷ w' ∷ []
four_same x y z w x' y' z' w' hx hy hz hw = cc

-- a table of f 0, f 1, ..
pub listed : {X : Type 0} (f : ℕ → X) (xs : List X) (n : ℕ) (d : X) → xs ≡ map f (range_with_len 0 n) → (p : ℕ) → p < n → get_or xs p d ≡ f p
listed f xs n d e p h = ap (λ t. get_or t p d) e ∙ get_or-map-range_with_len f 0 n p p d h (omega arith)
