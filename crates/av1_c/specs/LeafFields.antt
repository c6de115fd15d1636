-- Which field of a leaf is rejected.
use Rattle.std.specs.Prelude.{ℕ, Bool, false, not, ◌&&◌, ◌==◌, nat_lt, if◌then◌else◌, [], Option, Some}
use Rattle.av1_plan.specs.Geometry.{carries_chroma}
use Rattle.av1_plan.specs.declared.header.Header.{Header}
use Rattle.av1_plan.specs.declared.nodes.Part.{Part}
use Rattle.av1_plan.specs.declared.nodes.Part.TheVariants.{Leaf}
use Rattle.av1_planwrite.specs.Building.{asked_part, is_given, is_named}
use Rattle.av1_c.specs.Builders.{header_of, is_builder, plan_of}
use Rattle.av1_c.specs.Leaves.{reference_of, uv_type_of}
use Rattle.av1_c.specs.declared.builder.Builder.{Builder}
use Rattle.av1_c.specs.declared.leaf_numbers.LeafNumbers.{LeafNumbers}
use Rattle.av1_c.specs.declared.status.TheConstants.{FIELD_TX_SIZE, FIELD_TX_TYPE, FIELD_CHROMA_TX_TYPE}
use Rattle.av1_c.specs.declared.status.TheConstants.{FIELD_HAS_CHROMA, FIELD_MODE, FIELD_CHROMA_MODE, FIELD_FIRST}
use Rattle.av1_c.specs.declared.status.TheConstants.{FIELD_SECOND, FIELD_COEFFICIENTS, NOT_ADMITTED}

-- whether the part that a plan of this header needs next is a leaf that carries chroma
abbrev pub part_carries : Header → Option Part → Bool
part_carries h (Some (Leaf size x y)) = carries_chroma h x y size
part_carries h _ = false

-- whether these numbers are a builder over a buffer of this length, whose plan needs a leaf next that carries chroma
abbrev pub leaf_carries : Builder → (room : ℕ) → Bool
leaf_carries b room = is_builder b room && part_carries (header_of b.header) (asked_part (plan_of b []))

-- of a leaf with references, the first that is not one of LAST to ALTREF; else its coefficients
abbrev pub reference_field : LeafNumbers → ℕ
reference_field n =
    if not (is_named (reference_of n.first.reference)) then FIELD_FIRST
    else (if nat_lt n.mode 20 then FIELD_COEFFICIENTS
    else (if not (is_named (reference_of n.second.reference)) then FIELD_SECOND
    else FIELD_COEFFICIENTS))

-- of a leaf without references, the mode of its chroma if that is not one for chroma; else its coefficients
abbrev pub intra_field : LeafNumbers → ℕ
intra_field n =
    if n.chroma == 0 then FIELD_COEFFICIENTS
    else (if nat_lt 13 n.chroma_mode then FIELD_CHROMA_MODE else FIELD_COEFFICIENTS)

-- The first field of a rejected leaf that is not valid, in this order. `carried` says whether the leaf carries chroma.
-- If no other field is bad, the coefficients are.
abbrev pub leaf_field : (carried : Bool) → LeafNumbers → ℕ
leaf_field carried n =
    if nat_lt 18 n.tx_size then FIELD_TX_SIZE
    else (if nat_lt 16 n.tx_type then FIELD_TX_TYPE
    else (if nat_lt 16 n.uv_type then FIELD_CHROMA_TX_TYPE
    else (if not (is_given carried (uv_type_of n)) then FIELD_HAS_CHROMA
    else (if nat_lt 33 n.mode then FIELD_MODE
    else (if nat_lt n.mode 14 then intra_field n else reference_field n)))))

-- the number of the field after a call with this status, if it was `before` before the call
abbrev pub field_told : (status : ℕ) (carried : Bool) → LeafNumbers → (before : ℕ) → ℕ
field_told status carried n before = if status == NOT_ADMITTED then leaf_field carried n else before
