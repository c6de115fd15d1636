-- What holds of every plan that is read. A plan in memory keeps only that some list of fields spells
-- it, so each fact is brought out by itself.
use Rattle.std.proofs.Common.{◌≡◌, ℕ, ◌<◌, ◌≤◌, ◌⊎◌, inl, inr, Bool, true, false, List, [], ◌∷◌, length, Option, Some, None, get_or, All, refl, sym, ap, ◌∙◌}
use Rattle.std.proofs.Common.{subst, arith}
use Rattle.std.specs.Prelude.{slice_index_or}
use Rattle.std.proofs.Math.Bool.{Bool-set}
use Rattle.std.proofs.Math.Bridge.{le_prop}
use Rattle.std.proofs.Math.Dec.{T_prop}
use Rattle.std.proofs.Math.Logic.{∥∥₁_elim}
use Rattle.std.proofs.Math.Nat.{ℕ_set}
use Rattle.std.proofs.lemmas.List.{nil_from_length, get_or-map}
use Rattle.av1_plan.specs.declared.header.Header.{Header}
use Rattle.av1_plan.specs.declared.leaf.Triple.{Triple}
use Rattle.av1_plan.specs.declared.leaf.ChromaMode.{ChromaMode}
use Rattle.av1_plan.specs.declared.leaf.ChromaMode.TheVariants.{Plain, Cfl}
use Rattle.av1_plan.specs.declared.leaf.LeafKind.{LeafKind}
use Rattle.av1_plan.specs.declared.leaf.LeafKind.TheVariants.{Intra, Single, Compound}
use Rattle.av1_plan.specs.declared.plan.Plan.{Plan}
use Rattle.av1_plan.specs.declared.planes.SlotPlanes.{SlotPlanes as StoredPlanes}
use Rattle.av1_plan.specs.Values.{plan_value}
use Rattle.av1_plan.specs.CodingOrder.{IsOnGrid, IsQuarterInside, IsTwoToOne}
use Rattle.av1_plan.specs.Grammar.{is_depth, plan}
use Rattle.av1_plan.specs.Plan.{LeafValue, PlanValue, slot_value, slot_values, planes_value, carried_plane}
use Rattle.av1_plan.specs.ReadPlans.{IsSide, IsShown, AreSlots, IsReadFrame, ArePlane, IsReadReference, IsReadChroma, IsReadKind, AreThree, IsReadLeaf}
use Rattle.av1_plan.specs.ReadPlans.{AreStoredSlots, IsStoredSlot}
use Rattle.av1_plan.specs.Spelling.{IsSpelled}
use Rattle.av1_plan.proofs.NodeLeaves.{all_leaves}
use Rattle.av1_plan.proofs.ReadFrames.{depth_is, header_is, plan_pieces}
use Rattle.av1_plan.proofs.ReadLeaves.{leaf_is}
use Rattle.av1_plan.proofs.ReadReferences.{references_are}
use Rattle.av1_plan.specs.Geometry.{coded_width, coded_height, has_slot}

-- ---- a plan that is spelled

pub spelled_frame : (p : PlanValue) → IsSpelled plan p → IsReadFrame p.header
spelled_frame p s = header_is p.header (plan_pieces p s).header

pub spelled_leaves : (p : PlanValue) → IsSpelled plan p → All (IsReadLeaf p.header) p.leaves
spelled_leaves p s = all_leaves p.header (IsReadLeaf p.header) (leaf_is p.header) p.leaves (plan_pieces p s).leaves

-- ---- facts of which there is one proof

numbers : (n m : ℕ) → IsProp (n ≡ m)
numbers n m = hlevel (ℕ_set)

tests : (a b : Bool) → IsProp (a ≡ b)
tests a b = hlevel (Bool-set)

orders : (n m : ℕ) → IsProp (n ≤ m)
orders n m = le_prop

grids : (h : Header) (l : LeafValue) → IsProp (IsOnGrid h l)
grids h l = hlevel (ℕ_set, Bool-set, le_prop)

shapes : (h : Header) (l : LeafValue) → IsProp (h.version ≡ 1 → IsTwoToOne l)
shapes h l = hlevel (le_prop)

quarters : (h : Header) (l : LeafValue) → IsProp (IsQuarterInside h l)
quarters h l = hlevel (le_prop)

sides : (n : ℕ) → IsProp (IsSide n)
sides n = hlevel (ℕ_set, le_prop)

shown_sides : (n shown coded : ℕ) → IsProp (IsShown n shown coded)
shown_sides n shown coded = hlevel (ℕ_set, le_prop)

slots : (xs : List ℕ) → IsProp (AreSlots xs)
slots xs = hlevel (ℕ_set, le_prop)

chromas : (chroma : Option ChromaMode) → IsProp (IsReadChroma chroma)
chromas None = hlevel
chromas (Some (Plain mode step)) = hlevel (Bool-set, T_prop, le_prop)
chromas (Some (Cfl alpha_u alpha_v)) = hlevel (T_prop, le_prop)

kinds : (carried : Bool) (kind : LeafKind) → IsProp (IsReadKind carried kind)
kinds carried (Intra mode step chroma) = hlevel (Bool-set, T_prop, le_prop, chromas chroma)
kinds carried (Single mode reference mv) = hlevel (Bool-set, T_prop, le_prop)
kinds carried (Compound mode references mvs) = hlevel (Bool-set, T_prop, le_prop, ℕ_set)

planes : (h : Header) (slot c : ℕ) (o : Option (List ℕ)) → IsProp (IsReadReference h slot c o)
planes h slot c (Some samples) = hlevel (Bool-set, ℕ_set, le_prop)
planes h slot c None = hlevel (Bool-set)

-- ---- a plan of which only that is kept

module _ (p : PlanValue) (spelled : ∥ IsSpelled plan p ∥₁) where
  pub kept_grid : All (IsOnGrid p.header) p.leaves
  kept_grid k d within = ∥∥₁_elim spelled (grids p.header _) (λ s. (spelled_leaves p s k d within).grid)

  pub kept_quarters : All (IsQuarterInside p.header) p.leaves
  kept_quarters k d within = ∥∥₁_elim spelled (quarters p.header _) (λ s. (spelled_leaves p s k d within).quarter)

pub depth_holds : (n : ℕ) → (n ≡ 8) ⊎ (n ≡ 10) ⊎ (n ≡ 12) → is_depth n ≡ true
depth_holds n (inl e) = rw e refl
depth_holds n (inr (inl e)) = rw e refl
depth_holds n (inr (inr e)) = rw e refl

pub kept_frame : (p : PlanValue) → ∥ IsSpelled plan p ∥₁ → IsReadFrame p.header
kept_frame p spelled = record {
  least_version = ∥∥₁_elim spelled (orders 1 p.header.version) (λ s. (spelled_frame p s).least_version);
  most_version = ∥∥₁_elim spelled (orders p.header.version 3) (λ s. (spelled_frame p s).most_version);
  width = ∥∥₁_elim spelled (sides (coded_width p.header)) (λ s. (spelled_frame p s).width);
  height = ∥∥₁_elim spelled (sides (coded_height p.header)) (λ s. (spelled_frame p s).height);
  shown_width = ∥∥₁_elim spelled (shown_sides p.header.version p.header.width (coded_width p.header)) (λ s. (spelled_frame p s).shown_width);
  shown_height = ∥∥₁_elim spelled (shown_sides p.header.version p.header.height (coded_height p.header)) (λ s. (spelled_frame p s).shown_height);
  depth = depth_is p.header.depth (∥∥₁_elim spelled (tests (is_depth p.header.depth) true) (λ s. depth_holds p.header.depth (spelled_frame p s).depth));
  sampling = ∥∥₁_elim spelled (orders p.header.sampling 2) (λ s. (spelled_frame p s).sampling);
  filter = ∥∥₁_elim spelled le_prop (λ s. (spelled_frame p s).filter);
  slots = ∥∥₁_elim spelled (slots p.header.slots) (λ s. (spelled_frame p s).slots);
  mask = ∥∥₁_elim spelled le_prop (λ s. (spelled_frame p s).mask);
}

-- three lists, and whether those of chroma are empty, by their lengths
record HaveLengths (carried : Bool) (lists : List (List Triple)) : Type 0 where
  three : length lists ≡ 3
  u : carried ≡ false → length (slice_index_or lists 1 []) ≡ 0
  v : carried ≡ false → length (slice_index_or lists 2 []) ≡ 0

lengths : (carried : Bool) (lists : List (List Triple)) → IsProp (HaveLengths carried lists)
lengths carried lists = hlevel (ℕ_set)

have_lengths : (carried : Bool) (lists : List (List Triple)) → AreThree carried lists → HaveLengths carried lists
have_lengths carried lists are = record {
  three = rw are.are refl;
  u = λ e. rw (are.are, are.u_silent e) refl;
  v = λ e. rw (are.are, are.v_silent e) refl;
}

are_three : (carried : Bool) (lists : List (List Triple)) → HaveLengths carried lists → AreThree carried lists
are_three carried (y ∷ u ∷ v ∷ []) have =
    record { y = y; u = u; v = v; are = refl; u_silent = λ e. nil_from_length u (have.u e); v_silent = λ e. nil_from_length v (have.v e) }
are_three carried [] have = absurd (omega (arith, have.three))
are_three carried (y ∷ []) have = absurd (omega (arith, have.three))
are_three carried (y ∷ u ∷ []) have = absurd (omega (arith, have.three))
are_three carried (y ∷ u ∷ v ∷ x ∷ lists) have = absurd (omega (arith, have.three))

pub kept_leaves : (p : PlanValue) → ∥ IsSpelled plan p ∥₁ → All (IsReadLeaf p.header) p.leaves
kept_leaves p spelled k d within =
    let leaf : IsSpelled plan p → IsReadLeaf p.header _ = λ s. spelled_leaves p s k d within in
    record {
      grid = kept_grid p spelled k d within;
      shape = ∥∥₁_elim spelled (shapes p.header _) (λ s. (leaf s).shape);
      quarter = kept_quarters p spelled k d within;
      kind = ∥∥₁_elim spelled (kinds _ _) (λ s. (leaf s).kind);
      uv_type = ∥∥₁_elim spelled (tests _ _) (λ s. (leaf s).uv_type);
      triples = are_three _ _ (∥∥₁_elim spelled (lengths _ _) (λ s. have_lengths _ _ (leaf s).triples));
    }

-- ---- every plan in memory

pub read_frame : (p : Plan) → IsReadFrame p.header
read_frame p = kept_frame (plan_value p) p.spelled

pub read_leaves : (p : Plan) → All (IsReadLeaf p.header) (plan_value p).leaves
read_leaves p = kept_leaves (plan_value p) p.spelled

pub read_references : (p : Plan) (slot c : ℕ) → slot < 8 → c < 3 → IsReadReference p.header slot c (carried_plane (plan_value p) slot c)
read_references p slot c slot_in lt =
    ∥∥₁_elim p.spelled (planes p.header slot c _) (λ s. references_are (plan_value p) slot c (plan_pieces (plan_value p) s).references slot_in lt)

samples_of : (h : Header) (slot c : ℕ) (o : Option (List ℕ)) (samples : List ℕ) → o ≡ Some samples → IsReadReference h slot c o → ArePlane h c samples
samples_of h slot c o samples e is = let read : IsReadReference h slot c (Some samples) = subst (IsReadReference h slot c) e is in read.1

-- the planes of a stored slot
pub stored_planes : (slots : List (Option StoredPlanes)) (slot : ℕ) (o : Option StoredPlanes) (planes : StoredPlanes) → slot < length slots →
    o ≡ get_or slots slot o → o ≡ Some planes
    → slice_index_or (slot_values slots) slot None ≡ Some (planes_value planes)
stored_planes slots slot o planes lt at is = get_or-map slot_value slots slot o None lt ∙ ap slot_value (sym at ∙ is)

-- the samples of a slot, where it has some
pub read_samples : (p : Plan) (slot c : ℕ) (samples : List ℕ) → slot < 8 → c < 3 → carried_plane (plan_value p) slot c ≡ Some samples →
    ArePlane p.header c samples
read_samples p slot c samples slot_in lt e = samples_of p.header slot c _ samples e (read_references p slot c slot_in lt)

-- what is read of the planes of a slot holds of those that it stores
stored : (h : Header) (value : PlanValue) (slot : ℕ) (o : Option StoredPlanes) → slice_index_or value.references slot None ≡ slot_value o →
    ((c : ℕ) → c < 3 → IsReadReference h slot c (carried_plane value slot c)) → IsStoredSlot h slot o
stored h value slot (Some planes) e read =
    let own : (c : ℕ) → carried_plane value slot c ≡ Some (slice_index_or (planes_value planes) c []) = λ c. rw e refl in
    let are : (c : ℕ) → c < 3 → (has_slot h slot ≡ true) × ArePlane h c (slice_index_or (planes_value planes) c []) =
    λ c l. subst (IsReadReference h slot c) (own c) (read c l) in
    ((are 0 (omega arith)).0, (are 0 (omega arith)).1, (are 1 (omega arith)).1, (are 2 (omega arith)).1)
stored h value slot None e read =
    let own : carried_plane value slot 0 ≡ None = rw e refl in subst (IsReadReference h slot 0) own (read 0 (omega arith))

pub stored_slots : (p : Plan) → AreStoredSlots p.header p.references.items 8
stored_slots p slot lt =
    stored p.header (plan_value p) slot (slice_index_or p.references.items slot None)
    (get_or-map slot_value p.references.items slot None None (omega (arith, lt, p.slots)))
    (λ c l. read_references p slot c lt l)
