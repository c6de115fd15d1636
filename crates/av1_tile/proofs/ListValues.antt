-- Lists of numbers as the values of other lists.
use Rattle.std.proofs.Common.{ℕ, suc, ◌+◌, ◌<◌, ◌≡◌, ◌==◌, if◌then◌else◌, ℤ, List, [], ◌∷◌, ◌++◌, length, get_or, take, map, replicate, refl, ap, arith, ◌∙◌}
use Rattle.std.proofs.Common.{sym}
use Rattle.std.proofs.lemmas.List.{get_or_default}
use Rattle.std.proofs.Math.ListN.{set}
use Rattle.std.specs.List.{fold}
use Rattle.av1_plan.specs.declared.leaf.Triple.{Triple}
use Rattle.av1_tile.specs.Reference.{with_triple}
use Rattle.std.proofs.lemmas.Grind.{fold-append}
use Rattle.std.proofs.lemmas.List.{take_more}

-- a list of which each item has the value z
pub values_all : {X Z : Type 0} (val : X → Z) (xs : List X) (z : Z) → ((k : ℕ) (d : X) → k < length xs → val (get_or xs k d) ≡ z) →
    map val xs ≡ replicate (length xs) z
values_all val [] z h = refl
values_all val (x ∷ xs) z h = ap (λ y. y ∷ map val xs) (h 0 x (omega arith)) ∙ ap (λ ys. z ∷ ys) (values_all val xs z (λ k d l. h (suc k) d (omega arith)))

-- one more item of a fold
pub fold_more : {A B : Type 0} (s : B → A → B) (b : B) (xs : List A) (i : ℕ) (x : A) → i < length xs → x ≡ get_or xs i x →
    fold s b (take (i + 1) xs) ≡ s (fold s b (take i xs)) x
fold_more s b xs i x l e =
    ap (fold s b) (take_more xs i x l ∙ ap (λ y. take i xs ++ y ∷ []) (sym e)) ∙ fold-append s b (take i xs) (x ∷ [])

-- the list of coefficients with one more triple
pub triples_more : (block : ℕ) (old new zeros more : List ℤ) (ts : List Triple) (i : ℕ) (d : Triple) → i < length ts →
    old ≡ fold (with_triple block) zeros (take i ts) → new ≡ with_triple block old (get_or ts i d) → zeros ≡ more →
    new ≡ fold (with_triple block) more (take (i + 1) ts)
triples_more block old new zeros more ts i d l e h k =
    let t = get_or ts i d in
    let same : t ≡ get_or ts i t = get_or_default ts i d t l in
    h ∙ ap (λ (z : List ℤ). with_triple block z t) e ∙ sym (fold_more (with_triple block) zeros ts i t l same)
    ∙ ap (λ (z : List ℤ). fold (with_triple block) z (take (i + 1) ts)) k

-- a triple put at its place, if it is one of this block
pub with_triple_is : (block b p : ℕ) (old : List ℤ) (v : ℤ) (t : Triple) → b ≡ t.block → p ≡ t.place → v ≡ t.value →
    (if b == block then set old p v else old) ≡ with_triple block old t
with_triple_is block b p old v t e h k =
    ap (λ n. if n == block then set old p v else old) e ∙ ap (λ n. if t.block == block then set old n v else old) h
    ∙ ap (λ (z : ℤ). if t.block == block then set old t.place z else old) k
