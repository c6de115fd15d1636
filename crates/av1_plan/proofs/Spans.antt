-- Where a leaf's triples lie in the one list.
use Rattle.std.proofs.Common.{◌≡◌, ℕ, zero, suc, ◌+◌, ◌≤◌, ◌<◌, List, [], ◌∷◌, length, take, drop, get_or, map, refl, sym, ap, ◌∙◌, arith, sum}
use Rattle.std.specs.Coded.{le_prop}
use Rattle.std.proofs.Math.Logic.{∥∥₁_elim}
use Rattle.std.specs.Prelude.{slice_get, Some}
use Rattle.std.proofs.lemmas.List.{get_or-map, length-map}
use Rattle.std.proofs.lemmas.Option.{slice_get_within, get_or_from_slice_get, slice_get-map}
use Rattle.std.proofs.lemmas.List.Sums.{sum_by-cons}
use Rattle.av1_plan.specs.declared.leaf.Triple.{Triple}
use Rattle.av1_plan.specs.declared.leaf.Leaf.{Leaf}
use Rattle.av1_plan.specs.Plan.{LeafValue, cut, leaf_value, leaf_values, Follow}
use Rattle.av1_plan.proofs.Triples.{Follow-le}

-- the piece of one plane
cut_at : (triples : List Triple) (first : ℕ) (counts : List ℕ) (p : ℕ) →
    get_or (cut triples first counts) p [] ≡ take (get_or counts p 0) (drop (first + sum (take p counts)) triples)
cut_at triples first [] zero = refl
cut_at triples first [] (suc p) = refl
cut_at triples first (n ∷ counts) zero = let e : first + 0 ≡ first = omega arith in rw e refl
cut_at triples first (n ∷ counts) (suc p) =
    let e : first + n + sum (take p counts) ≡ first + sum (n ∷ take p counts) = omega (arith, sum_by-cons (λ (x : ℕ). x) n (take p counts)) in
    cut_at triples (first + n) counts p ∙ ap (λ (k : ℕ). take (get_or counts p 0) (drop k triples)) e

-- the piece of one plane lies among those of all planes
piece_within : (counts : List ℕ) (p : ℕ) → sum (take p counts) + get_or counts p 0 ≤ sum counts
piece_within [] zero = omega arith
piece_within [] (suc p) = omega arith
piece_within (n ∷ counts) zero = omega (arith, sum_by-cons (λ (x : ℕ). x) n counts)
piece_within (n ∷ counts) (suc p) = omega (arith, sum_by-cons (λ (x : ℕ). x) n (take p counts), sum_by-cons (λ (x : ℕ). x) n counts, piece_within counts p)

Follow-within : (a : ℕ) (leaves : List Leaf) (b i : ℕ) (l : Leaf) → Follow a leaves b → i < length leaves → l ≡ get_or leaves i l → l.first + sum l.counts ≤ b
unfolding Follow
Follow-within a [] b i l h lt e = absurd (omega arith)
Follow-within a (k ∷ leaves) b zero l h lt e = rw e (omega (arith, h.0, Follow-le (a + sum k.counts) leaves b h.1))
Follow-within a (k ∷ leaves) b (suc i) l h lt e = Follow-within (a + sum k.counts) leaves b i l h.1 (omega arith) e

-- a leaf's triples in a plane lie within the list
pub span_within : (leaves : List Leaf) (b i p : ℕ) (l : Leaf) → ∥ Follow 0 leaves b ∥₁ → i < length leaves → l ≡ get_or leaves i l →
    l.first + sum (take p l.counts) + get_or l.counts p 0 ≤ b
span_within leaves b i p l h lt e =
    let within : l.first + sum l.counts ≤ b = ∥∥₁_elim h le_prop (λ f. Follow-within 0 leaves b i l f lt e) in
    omega (arith, piece_within l.counts p)

-- what a stored leaf says
pub stored_value : (triples : List Triple) (leaves : List Leaf) (i : ℕ) (l : Leaf) → i < length leaves → l ≡ get_or leaves i l →
    get_or (leaf_values triples leaves) i (leaf_value triples l) ≡ leaf_value triples l
unfolding leaf_values
stored_value triples leaves i l lt e = get_or-map (leaf_value triples) leaves i l (leaf_value triples l) lt ∙ ap (leaf_value triples) (sym e)

pub length-leaf_values : (triples : List Triple) (leaves : List Leaf) → length (leaf_values triples leaves) ≡ length leaves
unfolding leaf_values
length-leaf_values triples leaves = length-map leaves (leaf_value triples)

-- the triples of a stored leaf in a plane
pub stored_triples_at : (triples : List Triple) (leaves : List Leaf) (i p : ℕ) (l : Leaf) → i < length leaves → l ≡ get_or leaves i l
    → get_or (get_or (map (λ (v : LeafValue). v.triples) (leaf_values triples leaves)) i []) p [] ≡ take (get_or l.counts p 0)
    (drop (l.first + sum (take p l.counts)) triples)
stored_triples_at triples leaves i p l lt e =
    let v = leaf_value triples l in
    let outer = get_or-map (λ (v : LeafValue). v.triples) (leaf_values triples leaves) i v [] (omega (arith, length-leaf_values triples leaves)) in
    rw (outer, stored_value triples leaves i l lt e) (cut_at triples l.first l.counts p)

-- the leaf of a plan's value that a stored leaf is
pub stored_leaf : (triples : List Triple) (leaves : List Leaf) (i : ℕ) (l : Leaf) → slice_get leaves i ≡ Some l →
    slice_get (leaf_values triples leaves) i ≡ Some (leaf_value triples l)
unfolding leaf_values
stored_leaf triples leaves i l e = slice_get-map (leaf_value triples) leaves i ∙ rw e refl

-- the triples of a leaf of a plan's value
pub triples_of_leaf : (triples : List Triple) (leaves : List Leaf) (i p : ℕ) (l : Leaf) → slice_get leaves i ≡ Some l
    → get_or (get_or (map (λ (v : LeafValue). v.triples) (leaf_values triples leaves)) i []) p [] ≡ get_or (cut triples l.first l.counts) p []
triples_of_leaf triples leaves i p l e =
    let v = leaf_value triples l in
    let s = stored_leaf triples leaves i l e in
    let k = get_or-map (λ (v : LeafValue). v.triples) (leaf_values triples leaves) i v [] (slice_get_within (leaf_values triples leaves) i v s) in
    rw (k, get_or_from_slice_get (leaf_values triples leaves) i v v s) refl
