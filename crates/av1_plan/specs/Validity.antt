-- Which leaves are valid, and the six reasons for which a leaf is rejected.
use Rattle.std.specs.Prelude.{ℕ, ℤ, pos, neg_ℤ, int_lt, ◌+◌, ◌-◌, ◌^◌, Bool, true, false, ◌==◌, ◌&&◌, ◌||◌, not, nat_lt}
use Rattle.std.specs.Prelude.{nat_le, nat_abs, if◌then◌else◌, Option, Some, None, List, [], ◌∷◌, slice_index_or, is_ok}
use Rattle.std.specs.List.{list_all}
use Rattle.av1_blocks.specs.declared.partition.BlockSize.{BlockSize}
use Rattle.av1_blocks.specs.declared.partition.RefType.{RefType}
use Rattle.av1_blocks.specs.declared.predict.PredictionMode.{PredictionMode}
use Rattle.av1_blocks.specs.declared.transform.TxSize.{TxSize}
use Rattle.av1_blocks.specs.declared.transform.TxSize.TheVariants.{TX_4X4}
use Rattle.av1_blocks.specs.declared.transform.TxType.{TxType}
use Rattle.av1_blocks.specs.declared.transform.TxType.TheVariants.{WHT_WHT}
use Rattle.av1_blocks.specs.Blocks.{block_width, block_height, cfl_allowed}
use Rattle.av1_blocks.specs.Chroma.{subsampled_size}
use Rattle.av1_blocks.specs.Modes.{is_cfl, is_directional}
use Rattle.av1_blocks.specs.References.{reference_number}
use Rattle.av1_blocks.specs.Transforms.{tx_number, tx_width, tx_height, tx_type_number, coded_area, valid_av1_transform}
use Rattle.av1_blocks.specs.Vectors.{is_valid_vector}
use Rattle.av1_plan.specs.declared.header.Header.{Header}
use Rattle.av1_plan.specs.declared.geometry.PlaneArea.{PlaneArea}
use Rattle.av1_plan.specs.declared.leaf.Triple.{Triple}
use Rattle.av1_plan.specs.declared.leaf.ChromaMode.{ChromaMode}
use Rattle.av1_plan.specs.declared.leaf.ChromaMode.TheVariants.{Plain, Cfl}
use Rattle.av1_plan.specs.declared.leaf.LeafKind.{LeafKind}
use Rattle.av1_plan.specs.declared.leaf.LeafKind.TheVariants.{Intra, Single, Compound}
use Rattle.av1_plan.specs.declared.error.Invalid.{Invalid}
use Rattle.av1_plan.specs.declared.error.InvalidKind.{InvalidKind}
use Rattle.av1_plan.specs.declared.error.InvalidKind.TheVariants as kinds
use Rattle.av1_plan.specs.Geometry.{xdec, ydec, has_slot, carries_chroma, plane_tx_size, plane_area, has_block}
use Rattle.av1_plan.specs.Plan.{LeafValue, PlanValue}

-- ---- sizes and transforms

-- the chroma of a leaf of this size has a block size
unfoldable pub has_block_size : Header → BlockSize → Bool
has_block_size h size = is_ok (subsampled_size size (xdec h 1) (ydec h 1))

-- a transform of this size may have this type; the Walsh-Hadamard transform is only for 4x4
unfoldable pub is_transform : TxSize → TxType → Bool
is_transform size type =
    valid_av1_transform size type
    && (not (tx_type_number type == tx_type_number WHT_WHT) || tx_number size == tx_number TX_4X4)

-- luma's transforms fit into the leaf, and all transforms have a type that their size may have
unfoldable pub has_transforms : Header → BlockSize → TxSize → TxType → Option TxType → Bool
has_transforms h size tx_size tx_type (Some uv_type) = nat_le (tx_width tx_size) (block_width size)
    && nat_le (tx_height tx_size) (block_height size) && is_transform tx_size tx_type
    && is_transform (plane_tx_size h size tx_size 1) uv_type
has_transforms h size tx_size tx_type None = nat_le (tx_width tx_size) (block_width size)
    && nat_le (tx_height tx_size) (block_height size) && is_transform tx_size tx_type

-- ---- modes

-- an angle step (of 3 degrees) from -3 to 3, and 0 for a mode without an angle
unfoldable pub is_step : PredictionMode → ℤ → Bool
is_step mode step = nat_le (nat_abs step) 3 && (nat_abs step == 0 || is_directional mode)

-- both weights are from -16 to 16 (eighths), and the leaf's size allows chroma from luma
unfoldable pub is_chroma_from_luma : BlockSize → ℤ → ℤ → Bool
is_chroma_from_luma size u v = nat_le (nat_abs u) 16 && nat_le (nat_abs v) 16 && cfl_allowed size

-- a chroma mode that a leaf of this size may have
unfoldable pub is_chroma_mode : BlockSize → ChromaMode → Bool
is_chroma_mode size (Plain mode step) = is_step mode step
is_chroma_mode size (Cfl u v) = is_chroma_from_luma size u v

-- a leaf of this size has no side under 8
unfoldable pub is_inter_size : BlockSize → Bool
is_inter_size size = nat_le 8 (block_width size) && nat_le 8 (block_height size)

-- a leaf of this size may be predicted from references: in the third version any leaf, before it one without a side
-- under 8
unfoldable pub admits_references : Header → BlockSize → Bool
admits_references h size = h.version == 3 || is_inter_size size

-- the modes fit the leaf; chroma from luma isn't valid for luma
unfoldable pub has_modes : Header → BlockSize → LeafKind → Bool
has_modes h size (Intra mode step (Some chroma)) =
    not (is_cfl mode) && is_step mode step && is_chroma_mode size chroma
has_modes h size (Intra mode step None) = not (is_cfl mode) && is_step mode step
has_modes h size (Single mode reference mv) = admits_references h size
has_modes h size (Compound mode references mvs) = admits_references h size

-- ---- vectors and references

-- a bitstream may hold all vectors of a leaf
unfoldable pub has_vectors : LeafKind → Bool
has_vectors (Intra mode step chroma) = true
has_vectors (Single mode reference mv) = is_valid_vector mv
has_vectors (Compound mode references mvs) = list_all is_valid_vector mvs

-- the slot that a reference names carries planes: reference n, from 1 to 7, names the slot at place n - 1 of the header
unfoldable pub has_reference : Header → RefType → Bool
has_reference h reference = let slot = slice_index_or h.slots (reference_number reference - 1) 8
    in nat_lt slot 8 && has_slot h slot

-- all references of a leaf name slots that carry planes
unfoldable pub has_references : Header → LeafKind → Bool
has_references h (Intra mode step chroma) = true
has_references h (Single mode reference mv) = has_reference h reference
has_references h (Compound mode references mvs) = list_all (has_reference h) references

-- ---- coefficients

-- a number that fits into `bits` signed bits
unfoldable pub fits_signed : ℕ → ℤ → Bool
fits_signed bits v = not (int_lt v (neg_ℤ (pos (2 ^ (bits - 1))))) && int_lt v (pos (2 ^ (bits - 1)))

-- the triple names a block that begins in the coded plane, a place in the block, and a number of depth + 8 signed bits
unfoldable pub is_coefficient : Header → ℕ → PlaneArea → Triple → Bool
is_coefficient h p a t = has_block h p a t.block && nat_lt t.place (coded_area a.tx_size)
    && fits_signed (h.depth + 8) t.value

-- a triple comes before another: in an earlier block, or at an earlier place of the same block
unfoldable pub is_before : Triple → Triple → Bool
is_before s t = nat_lt s.block t.block || (s.block == t.block && nat_lt s.place t.place)

-- each of the triples comes before the next
unfoldable pub rise : List Triple → Bool
rise [] = true
rise (t ∷ []) = true
rise (s ∷ t ∷ triples) = is_before s t && rise (t ∷ triples)

-- a triple may follow the last one, if there is one: for a private contract
unfoldable pub follows : Option Triple → Triple → Bool
follows None t = true
follows (Some s) t = is_before s t

-- a triple belongs to the block of the last one: for a private contract
unfoldable pub is_of_block : Option Triple → Triple → Bool
is_of_block None t = false
is_of_block (Some s) t = s.block == t.block

-- all triples are coefficients of blocks that begin in the coded plane, and they are strictly sorted by block and place
unfoldable pub are_coefficients : Header → ℕ → PlaneArea → List Triple → Bool
are_coefficients h p a triples = list_all (is_coefficient h p a) triples && rise triples

-- the leaf's triples in plane p are such coefficients
unfoldable pub has_plane_coefficients : Header → LeafValue → ℕ → Bool
has_plane_coefficients h l p =
    are_coefficients h p (plane_area h l.x l.y l.size l.tx_size p) (slice_index_or l.triples p [])

-- and so are its triples in all planes that it covers
unfoldable pub has_coefficients : Header → LeafValue → Bool
has_coefficients h l =
    has_plane_coefficients h l 0
    && (not (carries_chroma h l.x l.y l.size) || (has_plane_coefficients h l 1 && has_plane_coefficients h l 2))

-- ---- faults

-- the first reason, in this order, for which a leaf is rejected
unfoldable pub fault_of : Header → LeafValue → Option InvalidKind
fault_of h l =
    if not (has_block_size h l.size) then Some kinds.InvalidBlockSize
    else (if not (has_transforms h l.size l.tx_size l.tx_type l.uv_type) then Some kinds.Transform
    else (if not (has_modes h l.size l.kind) then Some kinds.Mode
    else (if not (has_vectors l.kind) then Some kinds.Vector
    else (if not (has_references h l.kind) then Some kinds.MissingReference
    else (if not (has_coefficients h l) then Some kinds.Coefficient else None)))))

-- the fault of leaf n, if it has one, else the fault of a later leaf
abbrev pub or_later : ℕ → Option InvalidKind → Option Invalid → Option Invalid
or_later n (Some kind) later = Some (record { leaf = n; kind = kind })
or_later n None later = later

-- the first fault of leaves that are numbered from n on
unfoldable pub fault_from : Header → ℕ → List LeafValue → Option Invalid
fault_from h n [] = None
fault_from h n (l ∷ leaves) = or_later n (fault_of h l) (fault_from h (n + 1) leaves)

-- the first faulty leaf of a plan and its first reason; a plan without one is valid
abbrev pub first_fault : PlanValue → Option Invalid
first_fault p = fault_from p.header 0 p.leaves
