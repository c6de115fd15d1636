-- Triples and leaves that are looked at one after the other.
use Rattle.std.proofs.Common.{◌≡◌, ℕ, ◌+◌, ◌≤◌, ◌<◌, Bool, true, false, ◌&&◌, List, [], ◌∷◌, length, drop, get_or, Option, Some, None, refl, ◌∙◌, arith, ap}
use Rattle.std.proofs.Common.{sym, IfSome, ◌^◌, ℤ, pos, neg_ℤ}
use Rattle.std.proofs.Common.{add-one, drop-cons}
use Rattle.std.specs.Prelude.{slice_get}
use Rattle.std.specs.List.{list_all}
use Rattle.std.proofs.lemmas.List.{drop_all}
use Rattle.std.proofs.lemmas.Option.{slice_get_within, get_or_from_slice_get, slice_get-get_or}
use Rattle.av1_plan.specs.declared.header.Header.{Header}
use Rattle.av1_plan.specs.declared.geometry.PlaneArea.{PlaneArea}
use Rattle.av1_plan.specs.declared.leaf.Triple.{Triple}
use Rattle.av1_plan.specs.declared.error.InvalidKind.{InvalidKind}
use Rattle.av1_plan.specs.declared.leaf.Leaf.{Leaf}
use Rattle.av1_plan.specs.Plan.{leaf_value, leaf_values}
use Rattle.av1_plan.proofs.Spans.{stored_leaf, length-leaf_values}
use Rattle.std.proofs.lemmas.Bool.Decides.{nat_tests}
use Rattle.av1_plan.specs.Geometry.{has_block}
use Rattle.std.specs.Prelude.{nat_lt, int_lt, not}
use Rattle.av1_plan.proofs.Signed.{fits_is}
use Rattle.av1_blocks.specs.Transforms.{coded_area}
use Rattle.av1_plan.specs.Validity.{fits_signed, is_coefficient, is_of_block, is_before, rise, follows, are_coefficients, fault_of, fault_from}

-- the item at a place, in front of those behind it
front : {A : Type 0} (xs : List A) (i : ℕ) (d : A) → i < length xs → drop i xs ≡ get_or xs i d ∷ drop (i + 1) xs
front xs i d lt = rw (add-one, drop-cons xs i d) refl

-- ---- triples

-- what the check has left to say of triples behind the last one
abbrev pub go_on : Header → ℕ → PlaneArea → Option Triple → List Triple → Bool
go_on h p a last [] = true
go_on h p a last (t ∷ triples) = is_coefficient h p a t && follows last t && go_on h p a (Some t) triples

regrouped : (fits behind all others : Bool) → (fits && behind && (all && others)) ≡ (fits && all && (behind && others))
regrouped true true all others = refl
regrouped true false true others = refl
regrouped true false false others = refl
regrouped false behind all others = refl

go_on_behind : (h : Header) (p : ℕ) (a : PlaneArea) (s : Triple) (triples : List Triple) →
    go_on h p a (Some s) triples ≡ (list_all (is_coefficient h p a) triples && rise (s ∷ triples))
unfolding rise follows
go_on_behind h p a s [] = refl
go_on_behind h p a s (t ∷ triples) =
    rw (go_on_behind h p a t triples) (regrouped (is_coefficient h p a t) (is_before s t) (list_all (is_coefficient h p a) triples) (rise (t ∷ triples)))

-- from the first one on it says what the definition does
pub go_on_all : (h : Header) (p : ℕ) (a : PlaneArea) (triples : List Triple) → go_on h p a None triples ≡ are_coefficients h p a triples
unfolding are_coefficients rise follows
go_on_all h p a [] = refl
go_on_all h p a (t ∷ triples) =
    rw (go_on_behind h p a t triples) (regrouped (is_coefficient h p a t) true (list_all (is_coefficient h p a) triples) (rise (t ∷ triples)))

both_parts : (a b : Bool) → (a && b) ≡ true → (a ≡ true) × (b ≡ true)
both_parts true b e = (refl, e)
both_parts false b e = absurd cc

cut_short : (a b c : Bool) → (a && b) ≡ false → (a && b && c) ≡ false
cut_short true true c e = absurd cc
cut_short true false c e = refl
cut_short false b c e = refl

pub triple_fits : (h : Header) (p : ℕ) (a : PlaneArea) (last : Option Triple) (triples : List Triple) (i : ℕ) (d : Triple) → i < length triples
    → (is_coefficient h p a (get_or triples i d) && follows last (get_or triples i d)) ≡ true →
    go_on h p a last (drop i triples) ≡ go_on h p a (Some (get_or triples i d)) (drop (i + 1) triples)
triple_fits h p a last triples i d lt e =
    let own = both_parts (is_coefficient h p a (get_or triples i d)) (follows last (get_or triples i d)) e in rw (front triples i d lt, own.0, own.1) refl

pub triple_unfit : (h : Header) (p : ℕ) (a : PlaneArea) (last : Option Triple) (triples : List Triple) (i : ℕ) (d : Triple) → i < length triples
    → (is_coefficient h p a (get_or triples i d) && follows last (get_or triples i d)) ≡ false → go_on h p a last (drop i triples) ≡ false
triple_unfit h p a last triples i d lt e =
    rw (front triples i d lt)
    (cut_short (is_coefficient h p a (get_or triples i d)) (follows last (get_or triples i d))
    (go_on h p a (Some (get_or triples i d)) (drop (i + 1) triples)) e)

-- the block of a triple that is of the last one's block
pub block_of_last : (h : Header) (p : ℕ) (a : PlaneArea) (last : Option Triple) (t : Triple) → IfSome last (λ s. has_block h p a s.block ≡ true) →
    is_of_block last t ≡ true → has_block h p a t.block ≡ true
unfolding is_of_block
block_of_last h p a None t known of = absurd cc
block_of_last h p a (Some s) t known of = let same : s.block ≡ t.block = grind (arith, nat_tests) in ap (has_block h p a) (sym same) ∙ known

-- a triple that is a coefficient has a block
coefficient_block : (h : Header) (p : ℕ) (a : PlaneArea) (t : Triple) → is_coefficient h p a t ≡ true → has_block h p a t.block ≡ true
unfolding is_coefficient
coefficient_block h p a t is = go (has_block h p a t.block) (nat_lt t.place (coded_area a.tx_size)) (fits_signed (h.depth + 8) t.value) is
  where
    go : (b c d : Bool) → (b && c && d) ≡ true → b ≡ true
    go true c d e = refl
    go false c d e = e

pub next_block : (h : Header) (p : ℕ) (a : PlaneArea) (last : Option Triple) (t : Triple) → (is_coefficient h p a t && follows last t) ≡ true →
    has_block h p a t.block ≡ true
next_block h p a last t e = coefficient_block h p a t (both_parts (is_coefficient h p a t) (follows last t) e).0

reordered : (behind bounded block : Bool) → (behind && bounded && block) ≡ (block && bounded && behind)
reordered true true true = refl
reordered true true false = refl
reordered true false true = refl
reordered true false false = refl
reordered false true true = refl
reordered false true false = refl
reordered false false true = refl
reordered false false false = refl

grouped : (a b c d : Bool) → (a && (b && c) && d) ≡ ((a && b && c) && d)
grouped true b c d = refl
grouped false b c d = refl

-- the tests in another order are those of a coefficient behind the last triple
pub next_is : (h : Header) (p : ℕ) (a : PlaneArea) (last : Option Triple) (t : Triple) (places : ℕ) (limit : ℤ) (behind bounded block : Bool) →
    places ≡ coded_area a.tx_size → limit ≡ pos (2 ^ (h.depth + 7)) → follows last t ≡ behind
    → (nat_lt t.place places && (not (int_lt t.value (neg_ℤ limit)) && int_lt t.value limit)) ≡ bounded → has_block h p a t.block ≡ block
    → (behind && bounded && block) ≡ (is_coefficient h p a t && follows last t)
unfolding is_coefficient
next_is h p a last t places limit behind bounded block few low behind-is bounded-is block-is =
    rw (sym behind-is, sym bounded-is, sym block-is, few, low, fits_is h.depth t.value)
    (reordered (follows last t) (nat_lt t.place (coded_area a.tx_size) && fits_signed (h.depth + 8) t.value) (has_block h p a t.block)
    ∙ grouped (has_block h p a t.block) (nat_lt t.place (coded_area a.tx_size)) (fits_signed (h.depth + 8) t.value) (follows last t))

-- there are none
pub no_triples : (h : Header) (p : ℕ) (a : PlaneArea) (triples : List Triple) → length triples ≡ 0 → are_coefficients h p a triples ≡ true
unfolding are_coefficients rise
no_triples h p a [] none = refl
no_triples h p a (t ∷ triples) none = absurd (omega (arith, none))

pub triples_end : (h : Header) (p : ℕ) (a : PlaneArea) (last : Option Triple) (triples : List Triple) (i : ℕ) → length triples ≤ i →
    go_on h p a last (drop i triples) ≡ true
triples_end h p a last triples i le = rw (drop_all i triples le) refl

-- ---- leaves

item_front : {A : Type 0} (xs : List A) (i : ℕ) (x : A) → slice_get xs i ≡ Some x → drop i xs ≡ x ∷ drop (i + 1) xs
item_front xs i x e = front xs i x (slice_get_within xs i x e) ∙ rw (get_or_from_slice_get xs i x x e) refl

leaf_front : (triples : List Triple) (leaves : List Leaf) (i : ℕ) (d : Leaf) → i < length leaves
    → drop i (leaf_values triples leaves) ≡ leaf_value triples (get_or leaves i d) ∷ drop (i + 1) (leaf_values triples leaves)
leaf_front triples leaves i d lt =
    item_front (leaf_values triples leaves) i _ (stored_leaf triples leaves i (get_or leaves i d) (slice_get-get_or leaves i d lt))

pub leaf_valid : (h : Header) (triples : List Triple) (leaves : List Leaf) (i : ℕ) (d : Leaf) → i < length leaves →
    fault_of h (leaf_value triples (get_or leaves i d)) ≡ None
    → fault_from h i (drop i (leaf_values triples leaves)) ≡ fault_from h (i + 1) (drop (i + 1) (leaf_values triples leaves))
unfolding fault_from
leaf_valid h triples leaves i d lt valid = rw (leaf_front triples leaves i d lt, valid) refl

pub leaf_faulty : (h : Header) (triples : List Triple) (leaves : List Leaf) (i : ℕ) (d : Leaf) (kind : InvalidKind) → i < length leaves →
    fault_of h (leaf_value triples (get_or leaves i d)) ≡ Some kind
    → fault_from h i (drop i (leaf_values triples leaves)) ≡ Some (record { leaf = i; kind = kind })
unfolding fault_from
leaf_faulty h triples leaves i d kind lt faulty = rw (leaf_front triples leaves i d lt, faulty) refl

pub leaves_end : (h : Header) (triples : List Triple) (leaves : List Leaf) (i : ℕ) → length leaves ≤ i →
    fault_from h i (drop i (leaf_values triples leaves)) ≡ None
unfolding fault_from
leaves_end h triples leaves i le = rw (drop_all i (leaf_values triples leaves) (omega (arith, length-leaf_values triples leaves))) refl
