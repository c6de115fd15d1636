-- The text of a plan: the reverse of the plan grammar. Each definition gives the bytes of its fields, in order.
use Rattle.std.specs.Prelude.{ℕ, zero, suc, ◌+◌, ◌*◌, ◌/◌, ◌^◌, ◌==◌, Bool, true, false, is_some, if◌then◌else◌, List}
use Rattle.std.specs.Prelude.{[], ◌∷◌, ◌++◌, codes, length, slice_index_or, Option, Some, None}
use Rattle.std.specs.List.{flat_map}
use Rattle.std.specs.Int.{w8, w16, w32, to_le_bytes, cast_unsigned}
use Rattle.av1_blocks.specs.declared.mc.MotionVector.{MotionVector}
use Rattle.av1_blocks.specs.declared.partition.BlockSize.{BlockSize}
use Rattle.av1_blocks.specs.declared.partition.PartitionType.{PartitionType}
use Rattle.av1_blocks.specs.declared.partition.PartitionType.TheVariants.{PARTITION_NONE, PARTITION_HORZ}
use Rattle.av1_blocks.specs.declared.partition.PartitionType.TheVariants.{PARTITION_VERT, PARTITION_SPLIT}
use Rattle.av1_blocks.specs.declared.partition.PartitionType.TheVariants.{PARTITION_HORZ_4, PARTITION_VERT_4}
use Rattle.av1_blocks.specs.declared.partition.RefType.{RefType}
use Rattle.av1_blocks.specs.Blocks.{block_width, block_height}
use Rattle.av1_blocks.specs.Filters.{filter_number}
use Rattle.av1_blocks.specs.Modes.{mode_number}
use Rattle.av1_blocks.specs.References.{reference_number}
use Rattle.av1_blocks.specs.Transforms.{tx_number, tx_type_number}
use Rattle.av1_blocks.specs.declared.transform.TxType.{TxType}
use Rattle.av1_blocks.specs.declared.transform.TxSize.{TxSize}
use Rattle.av1_plan.specs.declared.header.Header.{Header}
use Rattle.av1_plan.specs.declared.leaf.Triple.{Triple}
use Rattle.av1_plan.specs.declared.leaf.ChromaMode.{ChromaMode}
use Rattle.av1_plan.specs.declared.leaf.ChromaMode.TheVariants.{Plain, Cfl}
use Rattle.av1_plan.specs.declared.leaf.LeafKind.{LeafKind}
use Rattle.av1_plan.specs.declared.leaf.LeafKind.TheVariants.{Intra, Single, Compound}
use Rattle.av1_plan.specs.Geometry.{is_inside}
use Rattle.av1_plan.specs.Grammar.{half_side, quarter_side}
use Rattle.av1_plan.specs.Plan.{LeafValue, PlanValue}

-- ---- fields

-- a field of one byte, and of two and four, the low one first
abbrev pub byte : ℕ → List ℕ
byte v = to_le_bytes w8 v

abbrev pub pair : ℕ → List ℕ
pair v = to_le_bytes w16 v

abbrev pub quad : ℕ → List ℕ
quad v = to_le_bytes w32 v

-- ---- the fields before the leaves

-- the letters of a version
abbrev pub letters : ℕ → List ℕ
letters version =
    if version == 3 then codes "RPL3" else
    if version == 2 then codes "RPL2" else codes "RPL1"

-- the fields of a header: the frame, and what holds for all leaves
unfoldable pub header_text : Header → List ℕ
header_text h =
    letters h.version ++ pair h.width ++ pair h.height ++ byte h.depth ++ byte h.sampling
    ++ byte (filter_number h.filter)
    ++ byte (if h.edge_filter then 1 else 0) ++ h.slots ++ byte h.mask

-- a sample: one byte at depth 8, else two
abbrev pub sample_text : ℕ → ℕ → List ℕ
sample_text depth v = if depth == 8 then byte v else pair v

-- the samples of a plane
unfoldable pub plane_text : ℕ → List ℕ → List ℕ
plane_text depth samples = flat_map (sample_text depth) samples

-- the planes of a slot, if it carries planes
unfoldable pub slot_text : ℕ → Option (List (List ℕ)) → List ℕ
slot_text depth None = []
slot_text depth (Some planes) = flat_map (plane_text depth) planes

-- the planes of the slots
unfoldable pub references_text : ℕ → List (Option (List (List ℕ))) → List ℕ
references_text depth slots = flat_map (slot_text depth) slots

-- ---- leaves

-- a reference and its vector
unfoldable pub motion_text : RefType → MotionVector → List ℕ
motion_text reference mv = byte (reference_number reference) ++ pair (cast_unsigned w16 mv.row)
    ++ pair (cast_unsigned w16 mv.col)

-- references, each with its vector
unfoldable pub motions_text : List RefType → List MotionVector → List ℕ
motions_text (r ∷ references) (mv ∷ mvs) = motion_text r mv ++ motions_text references mvs
motions_text [] _ = []
motions_text _ [] = []

-- how the chroma of an intra leaf is predicted, if the leaf carries chroma
unfoldable pub chroma_text : Option ChromaMode → List ℕ
chroma_text None = []
chroma_text (Some (Plain mode step)) = byte (mode_number mode) ++ byte (cast_unsigned w8 step)
chroma_text (Some (Cfl u v)) = byte 13 ++ byte (cast_unsigned w8 u) ++ byte (cast_unsigned w8 v)

-- how a leaf is predicted
unfoldable pub kind_text : LeafKind → List ℕ
kind_text (Intra mode step chroma) = byte (mode_number mode) ++ byte (cast_unsigned w8 step) ++ chroma_text chroma
kind_text (Single mode reference mv) = byte (mode_number mode) ++ motion_text reference mv
kind_text (Compound mode references mvs) = byte (mode_number mode) ++ motions_text references mvs

-- the type of the chroma transforms, if the leaf carries chroma
unfoldable pub uv_type_text : Option TxType → List ℕ
uv_type_text None = []
uv_type_text (Some t) = byte (tx_type_number t)

-- a coefficient
unfoldable pub triple_text : Triple → List ℕ
triple_text t = byte t.block ++ pair t.place ++ quad (cast_unsigned w32 t.value)

-- the coefficients of a plane, their count first
unfoldable pub triples_text : List Triple → List ℕ
triples_text triples = pair (length triples) ++ flat_map triple_text triples

-- the coefficients of U and V, if the leaf carries chroma
unfoldable pub chroma_triples_text : Bool → List Triple → List Triple → List ℕ
chroma_triples_text true u v = triples_text u ++ triples_text v
chroma_triples_text false u v = []

-- the fields of a leaf before its coefficients
abbrev pub leading_text : LeafKind → TxSize → TxType → Option TxType → List ℕ
leading_text kind tx_size tx_type uv_type = kind_text kind ++ byte (tx_number tx_size) ++ byte (tx_type_number tx_type)
    ++ uv_type_text uv_type

-- a leaf with its coefficients of Y, U and V
unfoldable pub fields_text : LeafKind → TxSize → TxType → Option TxType → List Triple → List Triple → List Triple →
    List ℕ
fields_text kind tx_size tx_type uv_type y u v = leading_text kind tx_size tx_type uv_type ++ triples_text y
    ++ chroma_triples_text (is_some uv_type) u v

-- a leaf
unfoldable pub leaf_text : LeafValue → List ℕ
leaf_text l = fields_text l.kind l.tx_size l.tx_type l.uv_type (slice_index_or l.triples 0 [])
    (slice_index_or l.triples 1 []) (slice_index_or l.triples 2 [])

-- ---- nodes

-- How a node of this side is cut if its first leaf has these dimensions. If the leaf is as wide or as high as the node,
-- the leaf's other dimension decides. Else the node is cut into four nodes.
unfoldable pub cut_by_sides : (side width height : ℕ) → PartitionType
cut_by_sides side width height =
    if width == side then
    (if height == side then PARTITION_NONE else (if 2 * height == side then PARTITION_HORZ else PARTITION_HORZ_4))
    else (if height == side then (if 2 * width == side then PARTITION_VERT else PARTITION_VERT_4) else PARTITION_SPLIT)

-- how a node of 4 * 2 ^ level luma samples is cut if its first leaf has this size
unfoldable pub cut_of : ℕ → BlockSize → PartitionType
cut_of level size = cut_by_sides (4 * 2 ^ level) (block_width size) (block_height size)

-- the mark of a cut
unfoldable pub mark_of : PartitionType → ℕ
mark_of PARTITION_NONE = 0
mark_of PARTITION_HORZ = 1
mark_of PARTITION_VERT = 2
mark_of PARTITION_HORZ_4 = 8
mark_of PARTITION_VERT_4 = 9
mark_of _ = 3

-- the leaves that are still to be written, and the bytes so far
abbrev pub Draft : Type 0
Draft = List LeafValue × List ℕ

-- the next leaf is written, if one is left
unfoldable pub leaf_written : List LeafValue → List ℕ → Draft
leaf_written [] bytes = ([], bytes)
leaf_written (l ∷ leaves) bytes = (leaves, bytes ++ leaf_text l)

-- a part that is a leaf is written, if it begins in the frame
unfoldable pub part_written : Header → ℕ → ℕ → Draft → Draft
part_written h x y d = if is_inside h x y then leaf_written d.0 d.1 else d

-- how a node of this level is cut, as its first leaf decides
unfoldable pub next_cut : ℕ → List LeafValue → PartitionType
next_cut level [] = PARTITION_NONE
next_cut level (l ∷ leaves) = cut_of level l.size

-- the parts of a node of this level with this cut are written; `node` writes a part of half the side at a position
unfoldable pub parts_written : Header → ℕ → (ℕ → ℕ → Draft → Draft) → ℕ → ℕ → PartitionType → Draft → Draft
parts_written h level node x y PARTITION_NONE d = part_written h x y d
parts_written h level node x y PARTITION_HORZ d = part_written h x (y + half_side level) (part_written h x y d)
parts_written h level node x y PARTITION_VERT d = part_written h (x + half_side level) y (part_written h x y d)
parts_written h level node x y PARTITION_HORZ_4 d =
    part_written h x (y + 3 * quarter_side level)
    (part_written h x (y + 2 * quarter_side level)
    (part_written h x (y + quarter_side level) (part_written h x y d)))
parts_written h level node x y PARTITION_VERT_4 d =
    part_written h (x + 3 * quarter_side level) y
    (part_written h (x + 2 * quarter_side level) y
    (part_written h (x + quarter_side level) y (part_written h x y d)))
parts_written h level node x y _ d =
    node (x + half_side level) (y + half_side level)
    (node x (y + half_side level) (node (x + half_side level) y (node x y d)))

-- a part of 4 * 2 ^ level luma samples is written: a 4x4 leaf at level 0, else a node, its mark first
unfoldable pub block_written : Header → ℕ → ℕ → ℕ → Draft → Draft
block_written h zero x y d = part_written h x y d
block_written h (suc level) x y d =
    if is_inside h x y then (let cut = next_cut (suc level) d.0
    in parts_written h (suc level) (block_written h level) x y cut (d.0, d.1 ++ byte (mark_of cut)))
    else d

-- f i, then f (i + 1) and so on, n of them
unfoldable pub in_turn : (ℕ → Draft → Draft) → ℕ → ℕ → Draft → Draft
in_turn f i zero d = d
in_turn f i (suc n) d = in_turn f (i + 1) n (f i d)

-- the superblocks of a row
unfoldable pub row_written : Header → ℕ → Draft → Draft
row_written h row d = in_turn (λ col. block_written h 4 (64 * col) (64 * row)) 0 ((h.width + 63) / 64) d

-- all superblocks, in raster order
unfoldable pub superblocks_written : Header → Draft → Draft
superblocks_written h d = in_turn (row_written h) 0 ((h.height + 63) / 64) d

-- ---- the whole

-- the bytes before the leaves
unfoldable pub front_text : PlanValue → List ℕ
front_text p = header_text p.header ++ references_text p.header.depth p.references

-- the text of a plan
unfoldable pub plan_text : PlanValue → List ℕ
plan_text p = (superblocks_written p.header (p.leaves, front_text p)).1
