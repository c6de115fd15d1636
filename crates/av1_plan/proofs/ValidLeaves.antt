-- What holds of the leaves of a valid plan: each passes all six tests, its transforms fit it, and its triples fit their blocks.
use Rattle.std.proofs.Common.{ℕ, zero, suc, ◌+◌, ◌≡◌, ◌≤◌, ◌<◌, nat_lt, Bool, true, false, ◌&&◌, ◌||◌, not, if◌then◌else◌, inl, inr, List, [], ◌∷◌, length}
use Rattle.std.proofs.Common.{get_or, Option, Some, None, All, slice_index_or, refl, subst, arith}
use Rattle.std.specs.Prelude.{nat_le, ◌==◌}
use Rattle.std.specs.List.{list_all}
use Rattle.std.proofs.lemmas.Bool.{and_parts, or_cases, eqb-true, ltb-true, leb-true}
use Rattle.av1_blocks.specs.declared.partition.BlockSize.{BlockSize}
use Rattle.av1_blocks.specs.declared.transform.TxSize.{TxSize}
use Rattle.av1_blocks.specs.declared.transform.TxType.{TxType}
use Rattle.av1_blocks.specs.Blocks.{block_width, block_height}
use Rattle.av1_blocks.specs.Transforms.{tx_width, tx_height, coded_area}
use Rattle.av1_plan.specs.declared.error.Invalid.{Invalid}
use Rattle.av1_plan.specs.declared.error.InvalidKind.{InvalidKind}
use Rattle.av1_plan.specs.declared.error.InvalidKind.TheVariants as kinds
use Rattle.av1_plan.specs.declared.geometry.PlaneArea.{PlaneArea}
use Rattle.av1_plan.specs.declared.header.Header.{Header}
use Rattle.av1_plan.specs.declared.leaf.Triple.{Triple}
use Rattle.av1_plan.specs.Geometry.{carries_chroma, plane_tx_size, plane_area, has_block}
use Rattle.av1_plan.specs.Plan.{LeafValue, PlanValue}
use Rattle.av1_plan.specs.Validity.{fits_signed, is_coefficient, is_before, rise, are_coefficients, has_plane_coefficients, has_coefficients, has_block_size}
use Rattle.av1_plan.specs.Validity.{is_transform, has_transforms, has_modes, has_vectors, has_references, fault_of, or_later, fault_from, first_fault}

-- ---- the six tests

pub record IsValidLeaf (h : Header) (l : LeafValue) : Type 0 where
  pub size : has_block_size h l.size ≡ true
  pub transforms : has_transforms h l.size l.tx_size l.tx_type l.uv_type ≡ true
  pub modes : has_modes h l.size l.kind ≡ true
  pub vectors : has_vectors l.kind ≡ true
  pub references : has_references h l.kind ≡ true
  pub coefficients : has_coefficients h l ≡ true

no_fault : (b : Bool) (kind : InvalidKind) (later : Option InvalidKind) → (if not b then Some kind else later) ≡ None → (b ≡ true) × (later ≡ None)
no_fault true kind later e = (refl, e)
no_fault false kind later e = absurd cc

pub valid_leaf : (h : Header) (l : LeafValue) → fault_of h l ≡ None → IsValidLeaf h l
unfolding fault_of
valid_leaf h l e =
    let coefficients = if not (has_coefficients h l) then Some kinds.Coefficient else None in
    let references = if not (has_references h l.kind) then Some kinds.MissingReference else coefficients in
    let vectors = if not (has_vectors l.kind) then Some kinds.Vector else references in
    let modes = if not (has_modes h l.size l.kind) then Some kinds.Mode else vectors in
    let transforms = if not (has_transforms h l.size l.tx_size l.tx_type l.uv_type) then Some kinds.Transform else modes in
    let (size, e1) = no_fault (has_block_size h l.size) kinds.InvalidBlockSize transforms e in
    let (fits, e2) = no_fault (has_transforms h l.size l.tx_size l.tx_type l.uv_type) kinds.Transform modes e1 in
    let (mode, e3) = no_fault (has_modes h l.size l.kind) kinds.Mode vectors e2 in
    let (vector, e4) = no_fault (has_vectors l.kind) kinds.Vector references e3 in
    let (reference, e5) = no_fault (has_references h l.kind) kinds.MissingReference coefficients e4 in
    let (coefficient, _) = no_fault (has_coefficients h l) kinds.Coefficient None e5 in
    record { size = size; transforms = fits; modes = mode; vectors = vector; references = reference; coefficients = coefficient }

none_later : (n : ℕ) (fault : Option InvalidKind) (later : Option Invalid) → or_later n fault later ≡ None → (fault ≡ None) × (later ≡ None)
none_later n None later e = (refl, e)
none_later n (Some kind) later e = absurd cc

pub faultless : (h : Header) (n : ℕ) (leaves : List LeafValue) → fault_from h n leaves ≡ None → All (λ l. fault_of h l ≡ None) leaves
unfolding fault_from
faultless h n [] e k d within = absurd (omega arith)
faultless h n (l ∷ leaves) e zero d within = (none_later n (fault_of h l) (fault_from h (n + 1) leaves) e).0
faultless h n (l ∷ leaves) e (suc k) d within = faultless h (n + 1) leaves (none_later n (fault_of h l) (fault_from h (n + 1) leaves) e).1 k d (omega arith)

-- the leaves of a valid plan
pub valid_leaves : (p : PlanValue) → first_fault p ≡ None → All (IsValidLeaf p.header) p.leaves
valid_leaves p e k d within = valid_leaf p.header _ (faultless p.header 0 p.leaves e k d within)

-- ---- transforms

-- luma's transforms are no longer than the leaf, and all types exist at their sizes
pub record HasFittingTransforms (h : Header) (l : LeafValue) : Type 0 where
  pub width : tx_width l.tx_size ≤ block_width l.size
  pub height : tx_height l.tx_size ≤ block_height l.size
  pub luma : is_transform l.tx_size l.tx_type ≡ true
  pub chroma : (t : TxType) → l.uv_type ≡ Some t → is_transform (plane_tx_size h l.size l.tx_size 1) t ≡ true

luma_fits : (h : Header) (size : BlockSize) (tx_size : TxSize) (tx_type : TxType) (uv_type : Option TxType) →
    has_transforms h size tx_size tx_type uv_type ≡ true
    → (nat_le (tx_width tx_size) (block_width size) && nat_le (tx_height tx_size) (block_height size) && is_transform tx_size tx_type) ≡ true
unfolding has_transforms
luma_fits h size tx_size tx_type None e = e
luma_fits h size tx_size tx_type (Some t) e =
    (and_parts (nat_le (tx_width tx_size) (block_width size) && nat_le (tx_height tx_size) (block_height size) && is_transform tx_size tx_type)
    (is_transform (plane_tx_size h size tx_size 1) t) e).0

chroma_fits : (h : Header) (size : BlockSize) (tx_size : TxSize) (tx_type t : TxType) → has_transforms h size tx_size tx_type (Some t) ≡ true →
    is_transform (plane_tx_size h size tx_size 1) t ≡ true
unfolding has_transforms
chroma_fits h size tx_size tx_type t e =
    (and_parts (nat_le (tx_width tx_size) (block_width size) && nat_le (tx_height tx_size) (block_height size) && is_transform tx_size tx_type)
    (is_transform (plane_tx_size h size tx_size 1) t) e).1

pub fitting_transforms : (h : Header) (l : LeafValue) → IsValidLeaf h l → HasFittingTransforms h l
fitting_transforms h l valid =
    let (sides, luma) = and_parts (nat_le (tx_width l.tx_size) (block_width l.size) && nat_le (tx_height l.tx_size) (block_height l.size))
    (is_transform l.tx_size l.tx_type) (luma_fits h l.size l.tx_size l.tx_type l.uv_type valid.transforms) in
    let (width, height) = and_parts (nat_le (tx_width l.tx_size) (block_width l.size)) (nat_le (tx_height l.tx_size) (block_height l.size)) sides in
    record {
      width = leb-true (tx_width l.tx_size) (block_width l.size) width;
      height = leb-true (tx_height l.tx_size) (block_height l.size) height;
      luma = luma;
      chroma =
          λ t is. chroma_fits h l.size l.tx_size l.tx_type t
          (subst (λ (u : Option TxType). has_transforms h l.size l.tx_size l.tx_type u ≡ true) is valid.transforms);
    }

-- ---- triples

-- the triple names a block that begins in the coded plane p, one of its coefficients, and a number of depth + 8 bits
pub record IsFittingTriple (h : Header) (p : ℕ) (a : PlaneArea) (t : Triple) : Type 0 where
  pub block : has_block h p a t.block ≡ true
  pub place : t.place < coded_area a.tx_size
  pub value : fits_signed (h.depth + 8) t.value ≡ true

fitting_triple : (h : Header) (p : ℕ) (a : PlaneArea) (t : Triple) → is_coefficient h p a t ≡ true → IsFittingTriple h p a t
unfolding is_coefficient
fitting_triple h p a t e =
    let (stands, value) = and_parts (has_block h p a t.block && nat_lt t.place (coded_area a.tx_size)) (fits_signed (h.depth + 8) t.value) e in
    let (block, place) = and_parts (has_block h p a t.block) (nat_lt t.place (coded_area a.tx_size)) stands in
    record { block = block; place = ltb-true t.place (coded_area a.tx_size) place; value = value }

-- what a test says of each of a list
pub all_by : {A : Type 0} (test : A → Bool) (P : A → Type 0) → ((x : A) → test x ≡ true → P x) → (xs : List A) → list_all test xs ≡ true → All P xs
all_by test P each [] e k d within = absurd (omega arith)
all_by test P each (x ∷ xs) e zero d within = each x (and_parts (test x) (list_all test xs) e).0
all_by test P each (x ∷ xs) e (suc k) d within = all_by test P each xs (and_parts (test x) (list_all test xs) e).1 k d (omega arith)

fitting_list : (h : Header) (p : ℕ) (a : PlaneArea) (triples : List Triple) → are_coefficients h p a triples ≡ true → All (IsFittingTriple h p a) triples
unfolding are_coefficients
fitting_list h p a triples e =
    all_by (is_coefficient h p a) (IsFittingTriple h p a)
    (fitting_triple h p a) triples (and_parts (list_all (is_coefficient h p a) triples) (rise triples) e).0

-- the leaf's triples in plane p do
abbrev pub FitIn : Header → LeafValue → ℕ → Type 0
FitIn h l p = All (IsFittingTriple h p (plane_area h l.x l.y l.size l.tx_size p)) (slice_index_or l.triples p [])

-- and those in each plane of which it covers a part
pub record HasFittingTriples (h : Header) (l : LeafValue) : Type 0 where
  pub y : FitIn h l 0
  pub u : carries_chroma h l.x l.y l.size ≡ true → FitIn h l 1
  pub v : carries_chroma h l.x l.y l.size ≡ true → FitIn h l 2

where_carried : (c u v : Bool) → (not c || (u && v)) ≡ true → c ≡ true → (u ≡ true) × (v ≡ true)
where_carried true u v e carried = and_parts u v e
where_carried false u v e carried = absurd cc

-- the tests that a leaf's triples pass, in each plane of which it covers a part
pub record HasPassed (h : Header) (l : LeafValue) : Type 0 where
  pub y : has_plane_coefficients h l 0 ≡ true
  pub u : carries_chroma h l.x l.y l.size ≡ true → has_plane_coefficients h l 1 ≡ true
  pub v : carries_chroma h l.x l.y l.size ≡ true → has_plane_coefficients h l 2 ≡ true

pub passed_planes : (h : Header) (l : LeafValue) → has_coefficients h l ≡ true → HasPassed h l
unfolding has_coefficients
passed_planes h l e =
    let (luma, chroma) =
    and_parts (has_plane_coefficients h l 0) (not (carries_chroma h l.x l.y l.size) || (has_plane_coefficients h l 1 && has_plane_coefficients h l 2)) e in
    let both = where_carried (carries_chroma h l.x l.y l.size) (has_plane_coefficients h l 1) (has_plane_coefficients h l 2) chroma in
    record { y = luma; u = λ carried. (both carried).0; v = λ carried. (both carried).1 }

fit_in : (h : Header) (l : LeafValue) (p : ℕ) → has_plane_coefficients h l p ≡ true → FitIn h l p
unfolding has_plane_coefficients
fit_in h l p e = fitting_list h p (plane_area h l.x l.y l.size l.tx_size p) (slice_index_or l.triples p []) e

pub fitting_triples : (h : Header) (l : LeafValue) → IsValidLeaf h l → HasFittingTriples h l
fitting_triples h l valid =
    let passed = passed_planes h l valid.coefficients in
    record { y = fit_in h l 0 passed.y; u = λ carried. fit_in h l 1 (passed.u carried); v = λ carried. fit_in h l 2 (passed.v carried) }

-- ---- their order

rising_in : (h : Header) (l : LeafValue) (p : ℕ) → has_plane_coefficients h l p ≡ true → rise (slice_index_or l.triples p []) ≡ true
unfolding has_plane_coefficients are_coefficients
rising_in h l p e =
    (and_parts (list_all (is_coefficient h p (plane_area h l.x l.y l.size l.tx_size p)) (slice_index_or l.triples p []))
    (rise (slice_index_or l.triples p [])) e).1

-- in each plane of which the leaf covers a part, the triples rise
pub record HasRisingTriples (h : Header) (l : LeafValue) : Type 0 where
  pub y : rise (slice_index_or l.triples 0 []) ≡ true
  pub u : carries_chroma h l.x l.y l.size ≡ true → rise (slice_index_or l.triples 1 []) ≡ true
  pub v : carries_chroma h l.x l.y l.size ≡ true → rise (slice_index_or l.triples 2 []) ≡ true

pub rising_triples : (h : Header) (l : LeafValue) → IsValidLeaf h l → HasRisingTriples h l
rising_triples h l valid =
    let passed = passed_planes h l valid.coefficients in
    record { y = rising_in h l 0 passed.y; u = λ carried. rising_in h l 1 (passed.u carried); v = λ carried. rising_in h l 2 (passed.v carried) }

no_later : (s t : Triple) → is_before s t ≡ true → s.block ≤ t.block
unfolding is_before
no_later s t e = elim (or_cases (nat_lt s.block t.block) (s.block == t.block && nat_lt s.place t.place) e) [
  | inl less ↦ omega (arith, ltb-true s.block t.block less)
  | inr same ↦ omega (arith, eqb-true s.block t.block (and_parts (s.block == t.block) (nat_lt s.place t.place) same).0)
]

first_block : (s : Triple) (triples : List Triple) → rise (s ∷ triples) ≡ true → (j : ℕ) (d : Triple) → j < length triples →
    s.block ≤ (get_or triples j d).block
unfolding rise
first_block s [] e j d lt = absurd (omega arith)
first_block s (t ∷ triples) e zero d lt = no_later s t (and_parts (is_before s t) (rise (t ∷ triples)) e).0
first_block s (t ∷ triples) e (suc j) d lt =
    let (next, rest) = and_parts (is_before s t) (rise (t ∷ triples)) e in
    omega (arith, no_later s t next, first_block t triples rest j d (omega arith))

rest_rises : (t : Triple) (triples : List Triple) → rise (t ∷ triples) ≡ true → rise triples ≡ true
unfolding rise
rest_rises t [] e = refl
rest_rises t (u ∷ triples) e = (and_parts (is_before t u) (rise (u ∷ triples)) e).1

-- triples that rise rise by their blocks
pub blocks_rise : (triples : List Triple) → rise triples ≡ true → (i j : ℕ) (d : Triple) → i ≤ j → j < length triples →
    (get_or triples i d).block ≤ (get_or triples j d).block
blocks_rise [] e i j d le lt = absurd (omega arith)
blocks_rise (t ∷ triples) e zero zero d le lt = omega arith
blocks_rise (t ∷ triples) e zero (suc j) d le lt = first_block t triples e j d (omega arith)
blocks_rise (t ∷ triples) e (suc i) zero d le lt = absurd (omega arith)
blocks_rise (t ∷ triples) e (suc i) (suc j) d le lt = blocks_rise triples (rest_rises t triples e) i j d (omega arith) (omega arith)
