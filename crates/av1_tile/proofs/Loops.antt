-- Loops whose turns take steps one after another.
use Rattle.std.proofs.Common.{ℕ, zero, suc, ◌+◌, ◌<◌, ◌≡◌, List, [], ◌∷◌, ◌++◌, length, get_or, take, refl, ap, arith, ◌∙◌, sym}
use Rattle.std.specs.List.{fold, flat_map, range_with_len}
use Rattle.std.proofs.lemmas.Grind.{fold-append, flat_map-append}
use Rattle.std.proofs.lemmas.List.{map-id, append-nil, take_more}
use Rattle.std.proofs.lemmas.List.FromFn.{map-range_with_len_more}
use Rattle.av1_tile.specs.Steps.{joined}

pub joined_more : {A : Type 0} (n : ℕ) (f : ℕ → List A) → joined (n + 1) f ≡ joined n f ++ f n
unfolding joined
joined_more n f =
    let e : range_with_len 0 (n + 1) ≡ range_with_len 0 n ++ n ∷ [] = sym (map-id (range_with_len 0 (n + 1)))
    ∙ map-range_with_len_more (λ x. x) 0 n n (omega arith) ∙ ap (λ xs. xs ++ n ∷ []) (map-id (range_with_len 0 n)) in
    ap (flat_map f) e ∙ flat_map-append f (range_with_len 0 n) (n ∷ []) ∙ ap (λ xs. flat_map f (range_with_len 0 n) ++ xs) (append-nil (f n))

-- no turn yet
pub fold_joined_none : {A B : Type 0} (s : B → A → B) (p : B) (f : ℕ → List A) → p ≡ fold s p (joined 0 f)
unfolding joined
fold_joined_none s p f = refl

-- one more turn of a loop whose turn i takes the steps f i
pub fold_joined_more : {A B : Type 0} (s : B → A → B) (p q t : B) (n : ℕ) (f : ℕ → List A) → q ≡ fold s p (joined n f) → t ≡ fold s q (f n) →
    t ≡ fold s p (joined (n + 1) f)
fold_joined_more s p q t n f e h =
    h ∙ ap (λ u. fold s u (f n)) e ∙ sym (fold-append s p (joined n f) (f n)) ∙ ap (fold s p) (sym (joined_more n f))

-- a loop whose turns all leave things as they are
pub fold_joined_same : {A B : Type 0} (s : B → A → B) (p : B) (n : ℕ) (f : ℕ → List A) → ((i : ℕ) → p ≡ fold s p (f i)) → p ≡ fold s p (joined n f)
fold_joined_same s p zero f h = fold_joined_none s p f
fold_joined_same s p (suc n) f h =
    fold_joined_more s p p p n f (fold_joined_same s p n f h) (h n) ∙ ap (λ (m : ℕ). fold s p (joined m f)) (omega arith)

-- the same of a loop over a list
pub fold_leaves_more : {A B X : Type 0} (s : B → A → B) (p q t : B) (f : X → List A) (xs : List X) (i : ℕ) (x : X) → i < length xs → x ≡ get_or xs i x →
    q ≡ fold s p (flat_map f (take i xs)) → t ≡ fold s q (f x) → t ≡ fold s p (flat_map f (take (i + 1) xs))
fold_leaves_more s p q t f xs i x l r e h =
    let m : flat_map f (take (i + 1) xs) ≡ flat_map f (take i xs) ++ f x = ap (flat_map f) (take_more xs i x l ∙ ap (λ y. take i xs ++ y ∷ []) (sym r))
    ∙ flat_map-append f (take i xs) (x ∷ []) ∙ ap (λ ys. flat_map f (take i xs) ++ ys) (append-nil (f x)) in
    h ∙ ap (λ u. fold s u (f x)) e ∙ sym (fold-append s p (flat_map f (take i xs)) (f x)) ∙ ap (fold s p) (sym m)
