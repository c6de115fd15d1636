-- What holds of the modes and references of a valid leaf.
use Rattle.std.proofs.Common.{ℕ, ℤ, pos, negsuc, zero, suc, ◌-◌, ◌≡◌, ◌≤◌, ◌<◌, nat_lt, nat_abs, Bool, true, false, ◌&&◌, ◌||◌, not, Option, Some, None, All}
use Rattle.std.proofs.Common.{slice_index_or, refl, arith}
use Rattle.std.specs.Prelude.{nat_le, ◌==◌}
use Rattle.std.proofs.lemmas.Bool.{and_parts, not-true, eqb-true, ltb-true, leb-true}
use Rattle.std.proofs.lemmas.Bool.Decides.{nat_tests}
use Rattle.av1_blocks.specs.declared.partition.BlockSize.{BlockSize}
use Rattle.av1_blocks.specs.declared.partition.RefType.{RefType}
use Rattle.av1_blocks.specs.declared.predict.PredictionMode.{PredictionMode}
use Rattle.av1_blocks.specs.Blocks.{block_width, block_height, cfl_allowed}
use Rattle.av1_blocks.specs.Modes.{is_cfl, is_directional}
use Rattle.av1_blocks.specs.References.{reference_number}
use Rattle.av1_plan.specs.declared.header.Header.{Header}
use Rattle.av1_plan.specs.declared.leaf.ChromaMode.{ChromaMode}
use Rattle.av1_plan.specs.declared.leaf.ChromaMode.TheVariants.{Plain, Cfl}
use Rattle.av1_plan.specs.declared.leaf.LeafKind.{LeafKind}
use Rattle.av1_plan.specs.declared.leaf.LeafKind.TheVariants.{Intra, Single, Compound}
use Rattle.av1_plan.specs.Geometry.{has_slot}
use Rattle.av1_plan.specs.Plan.{LeafValue}
use Rattle.av1_plan.specs.Validity.{admits_references, is_step, is_chroma_from_luma, is_chroma_mode, is_inter_size, has_modes, has_reference, has_references}
use Rattle.av1_plan.proofs.ValidLeaves.{IsValidLeaf, all_by}

-- ---- modes

-- an angle step from -3 to 3, and 0 on a mode without an angle
pub record IsValidStep (mode : PredictionMode) (step : ℤ) : Type 0 where
  pub small : nat_abs step ≤ 3
  pub flat : is_directional mode ≡ false → step ≡ pos 0

-- weights from -16 to 16, and no side past 32
pub record HasValidWeights (size : BlockSize) (alpha_u alpha_v : ℤ) : Type 0 where
  pub u : nat_abs alpha_u ≤ 16
  pub v : nat_abs alpha_v ≤ 16
  pub width : block_width size ≤ 32
  pub height : block_height size ≤ 32

-- no side under 8
pub record IsInterSize (size : BlockSize) : Type 0 where
  pub width : 8 ≤ block_width size
  pub height : 8 ≤ block_height size

-- a chroma mode that a leaf of this size may have
abbrev pub IsValidChroma : BlockSize → Option ChromaMode → Type 0
IsValidChroma size None = Unit {0}
IsValidChroma size (Some (Plain mode step)) = IsValidStep mode step
IsValidChroma size (Some (Cfl alpha_u alpha_v)) = HasValidWeights size alpha_u alpha_v

-- chroma from luma is no luma mode
pub record IsValidIntra (size : BlockSize) (mode : PredictionMode) (step : ℤ) (chroma : Option ChromaMode) : Type 0 where
  pub plain : is_cfl mode ≡ false
  pub step_valid : IsValidStep mode step
  pub chroma_valid : IsValidChroma size chroma

-- modes that a leaf of this size may have
abbrev pub HasValidModes : Header → BlockSize → LeafKind → Type 0
HasValidModes h size (Intra mode step chroma) = IsValidIntra size mode step chroma
HasValidModes h size (Single mode reference mv) = h.version ≤ 2 → IsInterSize size
HasValidModes h size (Compound mode references mvs) = h.version ≤ 2 → IsInterSize size

no_size : (z : ℤ) → nat_abs z ≡ 0 → z ≡ pos 0
no_size (pos zero) e = refl
no_size (pos (suc n)) e = absurd (omega arith)
no_size (negsuc n) e = absurd (omega arith)

valid_step : (mode : PredictionMode) (step : ℤ) → is_step mode step ≡ true → IsValidStep mode step
unfolding is_step
valid_step mode step e =
    let (small, flat) = and_parts (nat_le (nat_abs step) 3) (nat_abs step == 0 || is_directional mode) e in
    record {
      small = leb-true (nat_abs step) 3 small;
      flat = λ no_angle. no_size step (eqb-true (nat_abs step) 0 (first_of_two (nat_abs step == 0) (is_directional mode) flat no_angle));
    }
  where
    first_of_two : (a b : Bool) → (a || b) ≡ true → b ≡ false → a ≡ true
    first_of_two true b e f = refl
    first_of_two false b e f = absurd cc

valid_weights : (size : BlockSize) (u v : ℤ) → is_chroma_from_luma size u v ≡ true → HasValidWeights size u v
unfolding is_chroma_from_luma cfl_allowed
valid_weights size u v e =
    let (weights, allowed) = and_parts (nat_le (nat_abs u) 16 && nat_le (nat_abs v) 16) (nat_le (block_width size) 32 && nat_le (block_height size) 32) e in
    let (a, b) = and_parts (nat_le (nat_abs u) 16) (nat_le (nat_abs v) 16) weights in
    let (c, d) = and_parts (nat_le (block_width size) 32) (nat_le (block_height size) 32) allowed in
    record {
      u = leb-true (nat_abs u) 16 a;
      v = leb-true (nat_abs v) 16 b;
      width = leb-true (block_width size) 32 c;
      height = leb-true (block_height size) 32 d;
    }

valid_chroma : (size : BlockSize) (chroma : ChromaMode) → is_chroma_mode size chroma ≡ true → IsValidChroma size (Some chroma)
unfolding is_chroma_mode
valid_chroma size (Plain mode step) e = valid_step mode step e
valid_chroma size (Cfl u v) e = valid_weights size u v e

inter_size : (size : BlockSize) → is_inter_size size ≡ true → IsInterSize size
unfolding is_inter_size
inter_size size e =
    let (width, height) = and_parts (nat_le 8 (block_width size)) (nat_le 8 (block_height size)) e in
    record { width = leb-true 8 (block_width size) width; height = leb-true 8 (block_height size) height }

-- a size that a version before the third admits
earlier_size : (h : Header) (size : BlockSize) → admits_references h size ≡ true → h.version ≤ 2 → IsInterSize size
unfolding admits_references
earlier_size h size e few = inter_size size (second_of_two (h.version == 3) (is_inter_size size) (grind (arith, nat_tests)) e)
  where
    second_of_two : (a b : Bool) → a ≡ false → (a || b) ≡ true → b ≡ true
    second_of_two true b e f = absurd cc
    second_of_two false b e f = f

modes_by : (h : Header) (size : BlockSize) (kind : LeafKind) → has_modes h size kind ≡ true → HasValidModes h size kind
unfolding has_modes
modes_by h size (Intra mode step (Some chroma)) e =
    let (front, chroma_valid) = and_parts (not (is_cfl mode) && is_step mode step) (is_chroma_mode size chroma) e in
    let (plain, step_valid) = and_parts (not (is_cfl mode)) (is_step mode step) front in
    record { plain = not-true (is_cfl mode) plain; step_valid = valid_step mode step step_valid; chroma_valid = valid_chroma size chroma chroma_valid }
modes_by h size (Intra mode step None) e =
    let (plain, step_valid) = and_parts (not (is_cfl mode)) (is_step mode step) e in
    record { plain = not-true (is_cfl mode) plain; step_valid = valid_step mode step step_valid; chroma_valid = tt }
modes_by h size (Single mode reference mv) e = earlier_size h size e
modes_by h size (Compound mode references mvs) e = earlier_size h size e

pub valid_modes : (h : Header) (l : LeafValue) → IsValidLeaf h l → HasValidModes h l.size l.kind
valid_modes h l valid = modes_by h l.size l.kind valid.modes

-- ---- references

-- the slot that a reference names: reference n names the header's slot in place n - 1
abbrev pub slot_of : Header → RefType → ℕ
slot_of h reference = slice_index_or h.slots (reference_number reference - 1) 8

-- it carries planes
pub record HasPlanes (h : Header) (reference : RefType) : Type 0 where
  pub slot : slot_of h reference < 8
  pub carries : has_slot h (slot_of h reference) ≡ true

-- the slots of all references of a leaf do
abbrev pub HasValidReferences : Header → LeafKind → Type 0
HasValidReferences h (Intra mode step chroma) = Unit {0}
HasValidReferences h (Single mode reference mv) = HasPlanes h reference
HasValidReferences h (Compound mode references mvs) = All (HasPlanes h) references

has_planes : (h : Header) (reference : RefType) → has_reference h reference ≡ true → HasPlanes h reference
unfolding has_reference
has_planes h reference e =
    let (slot, carries) = and_parts (nat_lt (slot_of h reference) 8) (has_slot h (slot_of h reference)) e in
    record { slot = ltb-true (slot_of h reference) 8 slot; carries = carries }

references_by : (h : Header) (kind : LeafKind) → has_references h kind ≡ true → HasValidReferences h kind
unfolding has_references
references_by h (Intra mode step chroma) e = tt
references_by h (Single mode reference mv) e = has_planes h reference e
references_by h (Compound mode references mvs) e = all_by (has_reference h) (HasPlanes h) (has_planes h) references e

pub valid_references : (h : Header) (l : LeafValue) → IsValidLeaf h l → HasValidReferences h l.kind
valid_references h l valid = references_by h l.kind valid.references
