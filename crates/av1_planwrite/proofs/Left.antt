-- The leaves of a plan in memory that are left to be written.
use Rattle.std.proofs.Common.{◌≡◌, ℕ, zero, suc, ◌+◌, ◌-◌, ◌≤◌, ◌<◌, true, false, inl, inr, List, [], ◌∷◌, ◌++◌, length, take, drop, get_or, map, Some, None}
use Rattle.std.proofs.Common.{slice_index_or, refl, sym, ap, ◌∙◌, arith}
use Rattle.std.specs.Prelude.{slice_get, sum}
use Rattle.std.proofs.Math.Seq.{drop-cons}
use Rattle.std.proofs.lemmas.Bool.{cases_lt}
use Rattle.std.proofs.lemmas.List.{length-map, length-take}
use Rattle.std.proofs.lemmas.Option.{slice_get_within, get_or_from_slice_get, slice_get-map}
use Rattle.av1_blocks.specs.declared.partition.PartitionType.TheVariants.{PARTITION_NONE}
use Rattle.av1_plan.specs.declared.leaf.Leaf.{Leaf}
use Rattle.av1_plan.specs.declared.leaf.Triple.{Triple}
use Rattle.av1_plan.specs.declared.plan.Plan.{Plan}
use Rattle.av1_plan.specs.Values.{plan_value, stored_leaves, stored_triples}
use Rattle.av1_plan.specs.Plan.{LeafValue, leaf_value, leaf_values, triples_of, cut}
use Rattle.av1_plan.proofs.Spans.{stored_leaf, triples_of_leaf, length-leaf_values, stored_triples_at}
use Rattle.av1_planwrite.specs.Bare.{none_of, bare_leaf}
use Rattle.av1_planwrite.specs.Text.{Draft, fields_text, leaf_text, cut_of, leaf_written, next_cut}
use Rattle.av1_planwrite.specs.Writing.{told, told_triples}
use Rattle.av1_planwrite.specs.declared.nodes.Coefficients.{Coefficients}
use Rattle.av1_planwrite.specs.declared.nodes.Coefficients.TheVariants.{Kept, LeftOut}

-- a leaf as it is written
abbrev pub told_leaf : Coefficients → LeafValue → LeafValue
told_leaf Kept l = l
told_leaf LeftOut l = bare_leaf l

left_at : (ls : List LeafValue) (i : ℕ) (l : LeafValue) → slice_get ls i ≡ Some l → drop i ls ≡ l ∷ drop (i + 1) ls
left_at ls i l e =
    let next : suc i ≡ i + 1 = omega arith in
    drop-cons ls i l (slice_get_within ls i l e) ∙ rw (get_or_from_slice_get ls i l l e, next) refl

-- the next leaf
pub next_left : (c : Coefficients) (p : Plan) (i : ℕ) (l : Leaf) → slice_get (stored_leaves p) i ≡ Some l
    → drop i (told c (plan_value p)).leaves ≡ told_leaf c (leaf_value (stored_triples p) l) ∷ drop (i + 1) (told c (plan_value p)).leaves
unfolding told
next_left Kept p i l e =
    left_at (leaf_values (stored_triples p) (stored_leaves p)) i (leaf_value (stored_triples p) l) (stored_leaf (stored_triples p) (stored_leaves p) i l e)
next_left LeftOut p i l e =
    let leaves = leaf_values (stored_triples p) (stored_leaves p) in
    left_at (map bare_leaf leaves) i (bare_leaf (leaf_value (stored_triples p) l))
    (slice_get-map bare_leaf leaves i ∙ rw (stored_leaf (stored_triples p) (stored_leaves p) i l e) refl)

drop_all : (ls : List LeafValue) (i : ℕ) → length ls ≤ i → drop i ls ≡ []
drop_all [] zero le = refl
drop_all [] (suc i) le = refl
drop_all (l ∷ ls) zero le = absurd (omega (arith, le))
drop_all (l ∷ ls) (suc i) le = drop_all ls i (omega (arith, le))

-- no leaf is left
pub none_left : (c : Coefficients) (p : Plan) (i : ℕ) → length (stored_leaves p) ≤ i → drop i (told c (plan_value p)).leaves ≡ []
unfolding told
none_left Kept p i le =
    drop_all (leaf_values (stored_triples p) (stored_leaves p)) i (omega (arith, le, length-leaf_values (stored_triples p) (stored_leaves p)))
none_left LeftOut p i le =
    let leaves = leaf_values (stored_triples p) (stored_leaves p) in
    drop_all (map bare_leaf leaves) i (omega (arith, le, length-map leaves bare_leaf, length-leaf_values (stored_triples p) (stored_leaves p)))

no_triples : (lists : List (List Triple)) (i : ℕ) → [] ≡ get_or (map none_of lists) i []
no_triples [] zero = refl
no_triples [] (suc i) = refl
no_triples (ts ∷ lists) zero = refl
no_triples (ts ∷ lists) (suc i) = no_triples lists i

-- its coefficients
told_at : (c : Coefficients) (p : Plan) (i plane : ℕ) (l : Leaf) → slice_get (stored_leaves p) i ≡ Some l
    → told_triples c (plan_value p) i plane ≡ slice_index_or (told_leaf c (leaf_value (stored_triples p) l)).triples plane []
told_at Kept p i plane l e = triples_of_leaf (stored_triples p) (stored_leaves p) i plane l e
told_at LeftOut p i plane l e = no_triples (cut (stored_triples p) l.first l.counts) plane

same_fields : (c : Coefficients) (v : LeafValue) →
    fields_text v.kind v.tx_size v.tx_type v.uv_type (slice_index_or (told_leaf c v).triples 0 []) (slice_index_or (told_leaf c v).triples 1 [])
    (slice_index_or (told_leaf c v).triples 2 []) ≡ leaf_text (told_leaf c v)
unfolding leaf_text
same_fields Kept v = refl
same_fields LeftOut v = refl

-- the text of the next leaf
pub told_fields : (c : Coefficients) (p : Plan) (i : ℕ) (l : Leaf) → slice_get (stored_leaves p) i ≡ Some l
    → fields_text l.kind l.tx_size l.tx_type l.uv_type (told_triples c (plan_value p) i 0) (told_triples c (plan_value p) i 1)
    (told_triples c (plan_value p) i 2) ≡ leaf_text (told_leaf c (leaf_value (stored_triples p) l))
told_fields c p i l e = rw (told_at c p i 0 l e, told_at c p i 1 l e, told_at c p i 2 l e) (same_fields c (leaf_value (stored_triples p) l))

-- a leaf has no more coefficients in a plane than its count
pub few_triples : (p : Plan) (i plane : ℕ) (l : Leaf) → slice_get (stored_leaves p) i ≡ Some l →
    length (triples_of (plan_value p) i plane) ≤ get_or l.counts plane 0
few_triples p i plane l e =
    let ts = drop (l.first + sum (take plane l.counts)) (stored_triples p) in
    let n = length-take (get_or l.counts plane 0) ts in
    let same =
    ap length (stored_triples_at (stored_triples p) (stored_leaves p) i plane l (slice_get_within (stored_leaves p) i l e)
    (sym (get_or_from_slice_get (stored_leaves p) i l l e))) in
    omega (arith, same, n)

-- the next leaf is written
pub leaf_step : (c : Coefficients) (p : Plan) (i : ℕ) (l : Leaf) (bytes new : List ℕ) (y u v : List Triple) → slice_get (stored_leaves p) i ≡ Some l
    → y ≡ told_triples c (plan_value p) i 0 → u ≡ told_triples c (plan_value p) i 1 → v ≡ told_triples c (plan_value p) i 2 →
    new ≡ bytes ++ fields_text l.kind l.tx_size l.tx_type l.uv_type y u v
    → (let d : Draft = (drop (i + 1) (told c (plan_value p)).leaves, new) in d) ≡ leaf_written (drop i (told c (plan_value p)).leaves) bytes
unfolding leaf_written
leaf_step c p i l bytes new y u v e y_is u_is v_is new_is =
    let text : new ≡ bytes ++ leaf_text (told_leaf c (leaf_value (stored_triples p) l)) = new_is
    ∙ ap (λ (bs : List ℕ). bytes ++ bs) (rw (y_is, u_is, v_is) (told_fields c p i l e)) in
    ap (λ (bs : List ℕ). (drop (i + 1) (told c (plan_value p)).leaves, bs)) text
    ∙ ap (λ (ls : List LeafValue). leaf_written ls bytes) (sym (next_left c p i l e))

-- ---- what is asked of the leaves that are left

past_end : (p : Plan) (i : ℕ) → slice_get (stored_leaves p) i ≡ None → length (stored_leaves p) ≤ i
past_end p i e = elim (cases_lt i (length (stored_leaves p))) [
  | inr le ↦ le
  | inl lt ↦ clash (stored_leaves p) i lt e
]
  where
    clash : {A : Type 0} (ls : List Leaf) (i : ℕ) → i < length ls → slice_get ls i ≡ None → A
    clash [] i lt e = absurd (omega (arith, lt))
    clash (l ∷ ls) zero lt e = absurd cc
    clash (l ∷ ls) (suc i) lt e = clash ls i (omega (arith, lt)) e

pub no_leaf : (c : Coefficients) (p : Plan) (i : ℕ) (bytes : List ℕ) → slice_get (stored_leaves p) i ≡ None
    → leaf_written (drop i (told c (plan_value p)).leaves) bytes ≡ (drop i (told c (plan_value p)).leaves, bytes)
unfolding leaf_written
no_leaf c p i bytes e = let none = none_left c p i (past_end p i e) in rw none refl

pub cut_some : (c : Coefficients) (p : Plan) (i level : ℕ) (l : Leaf) → slice_get (stored_leaves p) i ≡ Some l →
    next_cut level (drop i (told c (plan_value p)).leaves) ≡ cut_of level l.size
unfolding next_cut
cut_some c p i level l e = ap (next_cut level) (next_left c p i l e) ∙ same c (leaf_value (stored_triples p) l)
  where
    same : (c : Coefficients) (v : LeafValue) → cut_of level (told_leaf c v).size ≡ cut_of level v.size
    same Kept v = refl
    same LeftOut v = refl

pub cut_none : (c : Coefficients) (p : Plan) (i level : ℕ) → slice_get (stored_leaves p) i ≡ None →
    next_cut level (drop i (told c (plan_value p)).leaves) ≡ PARTITION_NONE
unfolding next_cut
cut_none c p i level e = ap (next_cut level) (none_left c p i (past_end p i e))

pub ruleset leaves_left = (no_leaf, cut_some, cut_none)
