-- The fields of a leaf that the numbers of C's leaf stand for.
use Rattle.std.specs.Prelude.{ℕ, ◌==◌, Bool, ◌&&◌, nat_lt, nat_le, if◌then◌else◌, List, [], ◌∷◌, map, Option, Some}
use Rattle.std.specs.Prelude.{None, slice_get}
use Rattle.av1_blocks.specs.declared.mc.MotionVector.{MotionVector}
use Rattle.av1_blocks.specs.declared.partition.RefType.{RefType}
use Rattle.av1_blocks.specs.declared.partition.RefType.TheVariants.{NONE_FRAME}
use Rattle.av1_blocks.specs.declared.partition.TheConstants.RefType as references
use Rattle.av1_blocks.specs.declared.predict.PredictionMode.{PredictionMode}
use Rattle.av1_blocks.specs.declared.predict.PredictionMode.TheVariants.{UV_CFL_PRED}
use Rattle.av1_blocks.specs.declared.predict.TheConstants.PredictionMode as modes
use Rattle.av1_blocks.specs.declared.transform.TxSize.{TxSize}
use Rattle.av1_blocks.specs.declared.transform.TxSize.TheVariants.{TX_4X4}
use Rattle.av1_blocks.specs.declared.transform.TheConstants.TxSize as tx_sizes
use Rattle.av1_blocks.specs.declared.transform.TxType.{TxType}
use Rattle.av1_blocks.specs.declared.transform.TxType.TheVariants.{DCT_DCT}
use Rattle.av1_blocks.specs.declared.transform.TheConstants.TxType as tx_types
use Rattle.av1_plan.specs.declared.leaf.ChromaMode.{ChromaMode}
use Rattle.av1_plan.specs.declared.leaf.ChromaMode.TheVariants.{Plain, Cfl}
use Rattle.av1_plan.specs.declared.leaf.LeafKind.{LeafKind}
use Rattle.av1_plan.specs.declared.leaf.LeafKind.TheVariants.{Intra, Single, Compound}
use Rattle.av1_plan.specs.declared.leaf.Triple.{Triple}
use Rattle.av1_planwrite.specs.declared.error.BuildError.{BuildError}
use Rattle.av1_planwrite.specs.Building.{Building, LeafFields, admits_leaf, asked_part, asks_leaf, refusal, with_leaf}
use Rattle.av1_planwrite.specs.Text.{fields_text}
use Rattle.av1_calls.specs.Arguments.{or_else}
use Rattle.av1_c.specs.declared.leaf_numbers.Coefficient.{Coefficient}
use Rattle.av1_c.specs.declared.leaf_numbers.LeafNumbers.{LeafNumbers}
use Rattle.av1_c.specs.declared.leaf_numbers.LeafMotion.{LeafMotion}

-- The mode of a number. Each number past the last one gives chroma from luma. That mode is valid neither for a leaf
-- with two references nor for plain chroma.
abbrev pub mode_of : ℕ → PredictionMode
mode_of number = or_else (slice_get modes.ALL number) UV_CFL_PRED

-- the reference of a number; each number past the last one gives one that no leaf may have
abbrev pub reference_of : ℕ → RefType
reference_of number = or_else (slice_get references.ALL number) NONE_FRAME

-- the size and the type of a transform from their numbers
abbrev pub tx_size_of : ℕ → TxSize
tx_size_of number = or_else (slice_get tx_sizes.ALL number) TX_4X4

abbrev pub tx_type_of : ℕ → TxType
tx_type_of number = or_else (slice_get tx_types.ALL number) DCT_DCT

-- the numbers of the transforms are in range
abbrev pub are_numbers : LeafNumbers → Bool
are_numbers n = nat_le n.tx_size 18 && nat_le n.tx_type 16 && nat_le n.uv_type 16

abbrev pub vector_of : LeafMotion → MotionVector
vector_of m = record { row = m.row; col = m.col }

-- how chroma is predicted in a leaf without references, if it carries chroma
abbrev pub chroma_of : LeafNumbers → Option ChromaMode
chroma_of n =
    if n.chroma == 0 then None
    else (if n.chroma_mode == 13 then Some (Cfl n.alpha_u n.alpha_v)
    else Some (Plain (mode_of n.chroma_mode) n.chroma_step))

-- how a leaf is predicted
abbrev pub kind_of : LeafNumbers → LeafKind
kind_of n =
    if nat_lt n.mode 14 then Intra (mode_of n.mode) n.step (chroma_of n)
    else (if nat_lt n.mode 20 then Single (mode_of n.mode) (reference_of n.first.reference) (vector_of n.first)
    else Compound (mode_of n.mode) (reference_of n.first.reference ∷ reference_of n.second.reference ∷ [])
    (vector_of n.first ∷ vector_of n.second ∷ []))

-- the type of the leaf's chroma transforms, if it carries chroma
abbrev pub uv_type_of : LeafNumbers → Option TxType
uv_type_of n = if n.chroma == 0 then None else Some (tx_type_of n.uv_type)

-- a coefficient as a plan has it
abbrev pub triple_of : Coefficient → Triple
triple_of c = record { block = c.block; place = c.place; value = c.value }

-- the fields of a leaf
abbrev pub fields_of : LeafNumbers → (y u v : List Coefficient) → LeafFields
fields_of n y u v = record {
  kind = kind_of n;
  tx_size = tx_size_of n.tx_size;
  tx_type = tx_type_of n.tx_type;
  uv_type = uv_type_of n;
  y = map triple_of y;
  u = map triple_of u;
  v = map triple_of v;
}

-- the bytes of the leaf's fields
abbrev pub leaf_bytes : LeafNumbers → (y u v : List Coefficient) → List ℕ
leaf_bytes n y u v = let l = fields_of n y u v in fields_text l.kind l.tx_size l.tx_type l.uv_type l.y l.u l.v

-- The first reason to reject this leaf. Either the plan needs no leaf next. Or a number is out of range, or the fields
-- are not valid here. Or the plan would have too many bytes.
abbrev pub numbers_refusal : Building → LeafNumbers → (y u v : List Coefficient) → Option BuildError
numbers_refusal b n y u v =
    let l = fields_of n y u v in
    refusal (asks_leaf (asked_part b)) (are_numbers n && admits_leaf b.header (asked_part b) l) (with_leaf b l).bytes
