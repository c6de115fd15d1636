-- What holds for every plan that is read: its frame, its reference samples and its leaves.
use Rattle.std.specs.Prelude.{◌≡◌, ℕ, ◌+◌, ◌^◌, ◌%◌, ◌<◌, ◌≤◌, ◌⊎◌, Bool, true, false, ℤ, List, [], ◌∷◌, length, Option}
use Rattle.std.specs.Prelude.{Some, None, is_some, slice_index_or, FitsSigned}
use Rattle.std.specs.Int.{w8}
use Rattle.std.specs.List.{All}
use Rattle.av1_blocks.specs.declared.mc.MotionVector.{MotionVector}
use Rattle.av1_blocks.specs.declared.partition.RefType.{RefType}
use Rattle.av1_blocks.specs.declared.predict.PredictionMode.{PredictionMode}
use Rattle.av1_blocks.specs.Filters.{filter_number}
use Rattle.av1_blocks.specs.Modes.{is_intra, is_cfl, is_compound}
use Rattle.av1_blocks.specs.References.{reference_number}
use Rattle.av1_blocks.specs.Vectors.{FitsVector}
use Rattle.av1_plan.specs.declared.header.Header.{Header}
use Rattle.av1_plan.specs.declared.leaf.Triple.{Triple}
use Rattle.av1_plan.specs.declared.planes.SlotPlanes.{SlotPlanes}
use Rattle.av1_plan.specs.declared.leaf.ChromaMode.{ChromaMode}
use Rattle.av1_plan.specs.declared.leaf.ChromaMode.TheVariants.{Plain, Cfl}
use Rattle.av1_plan.specs.declared.leaf.LeafKind.{LeafKind}
use Rattle.av1_plan.specs.declared.leaf.LeafKind.TheVariants.{Intra, Single, Compound}
use Rattle.av1_plan.specs.CodingOrder.{IsOnGrid, IsQuarterInside, IsTwoToOne}
use Rattle.av1_plan.specs.Geometry.{plane_len, has_slot, carries_chroma, coded_width, coded_height}
use Rattle.av1_plan.specs.Plan.{LeafValue}

-- ---- the frame

-- a coded side of a frame, in luma samples
pub record IsSide (n : ℕ) : Type 0 where
  pub whole : n % 8 ≡ 0
  pub least : 8 ≤ n
  pub most : n ≤ 2048

-- a shown side of a frame with this coded side: in the first two versions both are the same
pub record IsShown (version shown coded : ℕ) : Type 0 where
  pub some : 1 ≤ shown
  pub within : shown ≤ coded
  pub near : coded < shown + 8
  pub whole : version ≤ 2 → shown ≡ coded

-- the slots that the seven references name; there are eight slots
pub record AreSlots (slots : List ℕ) : Type 0 where
  pub count : length slots ≡ 7
  pub range : All (λ slot. slot < 8) slots

-- the version is 1, 2 or 3, sampling 0, 1 or 2, and the filter one of the first four (the fifth, switchable, belongs to
-- bitstreams)
pub record IsReadFrame (h : Header) : Type 0 where
  pub least_version : 1 ≤ h.version
  pub most_version : h.version ≤ 3
  pub width : IsSide (coded_width h)
  pub height : IsSide (coded_height h)
  pub shown_width : IsShown h.version h.width (coded_width h)
  pub shown_height : IsShown h.version h.height (coded_height h)
  pub depth : (h.depth ≡ 8) ⊎ (h.depth ≡ 10) ⊎ (h.depth ≡ 12)
  pub sampling : h.sampling ≤ 2
  pub filter : filter_number h.filter < 4
  pub slots : AreSlots h.slots
  pub mask : h.mask < 256

-- ---- reference samples

-- the samples of a plane: as many as are shown, each within the frame's depth
pub record ArePlane (h : Header) (plane : ℕ) (samples : List ℕ) : Type 0 where
  pub count : length samples ≡ plane_len h plane
  pub range : All (λ sample. sample < 2 ^ h.depth) samples

-- a plane of a slot: it has samples exactly if the mask has the slot
abbrev pub IsReadReference : Header → (slot plane : ℕ) → Option (List ℕ) → Type 0
IsReadReference h slot plane (Some samples) = (has_slot h slot ≡ true) × ArePlane h plane samples
IsReadReference h slot plane None = has_slot h slot ≡ false

-- a slot in memory: it has planes exactly if the mask has it
abbrev pub IsStoredSlot : Header → ℕ → Option SlotPlanes → Type 0
IsStoredSlot h slot (Some planes) = (has_slot h slot ≡ true) × ArePlane h 0 planes.y.items ×
    ArePlane h 1 planes.u.items × ArePlane h 2 planes.v.items
IsStoredSlot h slot None = has_slot h slot ≡ false

-- the first n slots in memory
abbrev pub AreStoredSlots : Header → List (Option SlotPlanes) → ℕ → Type 0
AreStoredSlots h slots n = (s : ℕ) → s < n → IsStoredSlot h s (slice_index_or slots s None)

-- ---- the kind of a leaf

-- an intra mode that isn't chroma from luma, and an angle step of one byte
pub record IsReadPlain (mode : PredictionMode) (step : ℤ) : Type 0 where
  pub intra : is_intra mode ≡ true
  pub plain : is_cfl mode ≡ false
  pub step_fits : FitsSigned w8 step

-- two weights of one byte each
pub record AreReadWeights (alpha_u alpha_v : ℤ) : Type 0 where
  pub u : FitsSigned w8 alpha_u
  pub v : FitsSigned w8 alpha_v

-- how chroma is predicted, if it is carried
abbrev pub IsReadChroma : Option ChromaMode → Type 0
IsReadChroma None = Unit {0}
IsReadChroma (Some (Plain mode step)) = IsReadPlain mode step
IsReadChroma (Some (Cfl alpha_u alpha_v)) = AreReadWeights alpha_u alpha_v

-- an intra leaf has a chroma mode exactly if it carries chroma
pub record IsReadIntra (carried : Bool) (mode : PredictionMode) (step : ℤ) (chroma : Option ChromaMode) : Type 0 where
  pub intra : is_intra mode ≡ true
  pub step_fits : FitsSigned w8 step
  pub chroma_carried : is_some chroma ≡ carried
  pub chroma_read : IsReadChroma chroma

-- a reference from LAST to ALTREF
pub record IsOtherFrame (reference : RefType) : Type 0 where
  pub least : 1 ≤ reference_number reference
  pub most : reference_number reference ≤ 7

-- one reference, and a mode for one reference
pub record IsReadSingle (mode : PredictionMode) (reference : RefType) (mv : MotionVector) : Type 0 where
  pub inter : is_intra mode ≡ false
  pub single : is_compound mode ≡ false
  pub reference_read : IsOtherFrame reference
  pub vector_fits : FitsVector mv

-- two references, and a mode for two references
pub record IsReadCompound (mode : PredictionMode) (references : List RefType) (mvs : List MotionVector) : Type 0 where
  pub compound : is_compound mode ≡ true
  pub two_references : length references ≡ 2
  pub references_read : All IsOtherFrame references
  pub two_vectors : length mvs ≡ 2
  pub vectors_fit : All FitsVector mvs

-- how a leaf is predicted, by whether it carries chroma
abbrev pub IsReadKind : Bool → LeafKind → Type 0
IsReadKind carried (Intra mode step chroma) = IsReadIntra carried mode step chroma
IsReadKind carried (Single mode reference mv) = IsReadSingle mode reference mv
IsReadKind carried (Compound mode references mvs) = IsReadCompound mode references mvs

-- ---- leaves

-- the triples of Y, U and V: none for U and V if chroma isn't carried
pub record AreThree (carried : Bool) (lists : List (List Triple)) : Type 0 where
  pub y : List Triple
  pub u : List Triple
  pub v : List Triple
  pub are : lists ≡ y ∷ u ∷ v ∷ []
  pub u_silent : carried ≡ false → u ≡ []
  pub v_silent : carried ≡ false → v ≡ []

-- A leaf lies on its grid, and has the fields of chroma exactly if it carries chroma. In the first version no side is
-- more than twice the other. A leaf with one side four times the other ends in the coded frame.
pub record IsReadLeaf (h : Header) (l : LeafValue) : Type 0 where
  pub grid : IsOnGrid h l
  pub shape : h.version ≡ 1 → IsTwoToOne l
  pub quarter : IsQuarterInside h l
  pub kind : IsReadKind (carries_chroma h l.x l.y l.size) l.kind
  pub uv_type : is_some l.uv_type ≡ carries_chroma h l.x l.y l.size
  pub triples : AreThree (carries_chroma h l.x l.y l.size) l.triples
