-- Lists that are read item by item.
use Rattle.std.proofs.Common.{◌≡◌, ℕ, ◌+◌, ◌<◌, ◌≤◌, Bool, true, List, [], ◌∷◌, ◌++◌, length, take, set, map, refl, sym, ap, ◌∙◌}
use Rattle.std.specs.List.{list_all}
use Rattle.std.proofs.lemmas.Bool.{and_parts}
use Rattle.std.proofs.lemmas.List.{take_all, take_more_set}

-- one more is written that passes a test
pub all_set : {A : Type 0} (p : A → Bool) (xs : List A) (n : ℕ) (x : A) → n < length xs → list_all p (take n xs) ≡ true → p x ≡ true →
    list_all p (take (n + 1) (set xs n x)) ≡ true
all_set {A = A} p xs n x lt e f = ap (list_all p) (take_more_set xs n x lt) ∙ both (take n xs) e
  where
    both : (ys : List A) → list_all p ys ≡ true → list_all p (ys ++ x ∷ []) ≡ true
    both [] e = rw f refl
    both (y ∷ ys) e = let (first, later) = and_parts (p y) (list_all p ys) e in rw (first, both ys later) refl

-- all of them
pub all_read : {A B : Type 0} (f : A → B) (n : ℕ) (xs : List A) (ys : List B) → take n ys ≡ map f (take n xs) → length ys ≤ n → length xs ≤ n → ys ≡ map f xs
all_read f n xs ys e few_ys few_xs = sym (take_all n ys few_ys) ∙ e ∙ ap (map f) (take_all n xs few_xs)
