-- A leaf that is valid in the second version is valid in the third.
use Rattle.std.proofs.Common.{◌≡◌, ◌∙◌, true, Option, Some, None, refl}
use Rattle.av1_blocks.specs.declared.partition.BlockSize.{BlockSize}
use Rattle.av1_blocks.specs.declared.transform.TxSize.{TxSize}
use Rattle.av1_blocks.specs.declared.transform.TxType.{TxType}
use Rattle.av1_plan.specs.declared.header.Header.{Header}
use Rattle.av1_plan.specs.declared.leaf.LeafKind.{LeafKind}
use Rattle.av1_plan.specs.declared.leaf.LeafKind.TheVariants.{Intra, Single, Compound}
use Rattle.av1_plan.specs.Plan.{LeafValue}
use Rattle.av1_plan.specs.Geometry.{carries_chroma, has_block, has_slot, plane_area, plane_height, plane_place, plane_size, plane_tx_size, plane_width}
use Rattle.av1_plan.specs.Geometry.{coded_width, coded_height, xdec, ydec}
use Rattle.av1_plan.specs.Validity.{admits_references, are_coefficients, fault_of, has_block_size, has_coefficients, has_modes, has_plane_coefficients}
use Rattle.av1_plan.specs.Validity.{has_reference}
use Rattle.av1_plan.specs.Validity.{has_references, has_transforms, has_vectors, is_coefficient}
use Rattle.av1_plan.specs.Versions.{ValidStaysValid, header_in}
use Rattle.av1_plan.proofs.ValidLeaves.{valid_leaf}

modes_stay : (h : Header) (size : BlockSize) (kind : LeafKind) → has_modes (header_in 2 h) size kind ≡ true → has_modes (header_in 3 h) size kind ≡ true
unfolding has_modes admits_references
modes_stay h size (Intra mode step (Some chroma)) e = e
modes_stay h size (Intra mode step None) e = e
modes_stay h size (Single mode reference mv) e = refl
modes_stay h size (Compound mode references mvs) e = refl

size_stays : (h : Header) (size : BlockSize) → has_block_size (header_in 3 h) size ≡ has_block_size (header_in 2 h) size
unfolding has_block_size xdec ydec
size_stays h size = refl

transforms_stay : (h : Header) (size : BlockSize) (tx_size : TxSize) (tx_type : TxType) (uv_type : Option TxType) →
    has_transforms (header_in 3 h) size tx_size tx_type uv_type ≡ has_transforms (header_in 2 h) size tx_size tx_type uv_type
unfolding has_transforms plane_tx_size xdec ydec
transforms_stay h size tx_size tx_type None = refl
transforms_stay h size tx_size tx_type (Some uv_type) = refl

references_stay : (h : Header) (kind : LeafKind) → has_references (header_in 3 h) kind ≡ has_references (header_in 2 h) kind
unfolding has_references has_reference has_slot
references_stay h (Intra mode step chroma) = refl
references_stay h (Single mode reference mv) = refl
references_stay h (Compound mode references mvs) = refl

coefficients_stay : (h : Header) (l : LeafValue) → has_coefficients (header_in 3 h) l ≡ has_coefficients (header_in 2 h) l
unfolding has_coefficients has_plane_coefficients are_coefficients is_coefficient has_block plane_area plane_place plane_size plane_tx_size
    coded_width coded_height plane_width plane_height carries_chroma xdec ydec
coefficients_stay h l = refl

no_fault : (h : Header) (l : LeafValue) → has_block_size h l.size ≡ true → has_transforms h l.size l.tx_size l.tx_type l.uv_type ≡ true →
    has_modes h l.size l.kind ≡ true
    → has_vectors l.kind ≡ true → has_references h l.kind ≡ true → has_coefficients h l ≡ true → fault_of h l ≡ None
unfolding fault_of
no_fault h l size transforms modes vectors references coefficients = rw (size, transforms, modes, vectors, references, coefficients) refl

pub valid_stays_valid : ValidStaysValid
valid_stays_valid h l e =
    let valid = valid_leaf (header_in 2 h) l e in
    no_fault (header_in 3 h) l (size_stays h l.size ∙ valid.size) (transforms_stay h l.size l.tx_size l.tx_type l.uv_type ∙ valid.transforms)
    (modes_stay h l.size l.kind valid.modes) valid.vectors (references_stay h l.kind ∙ valid.references) (coefficients_stay h l ∙ valid.coefficients)
