-- The plan grammar: the fields of a plan, in their order. Numbers are little-endian.
use Rattle.std.specs.Prelude.{codes, zero, suc, ◌+◌, ◌*◌, ◌/◌, ◌%◌, ◌^◌, ◌&&◌, ◌||◌, slice_index_or, Option, Some, None}
use Rattle.std.specs.Prelude.{nat_lt, nat_le, ℕ, Bool, true, false, ◌==◌, if◌then◌else◌, List, [], ◌∷◌}
use Rattle.std.specs.Result.{result_unwrap_or}
use Rattle.std.specs.Int.{w8, w16, w32, cast_signed, is_in_range, from_le_bytes}
use Rattle.av1_blocks.specs.declared.mc.FilterMode.TheVariants.{REGULAR}
use Rattle.av1_blocks.specs.declared.mc.TheConstants.FilterMode as filter_modes
use Rattle.av1_blocks.specs.declared.mc.MotionVector.{MotionVector}
use Rattle.av1_blocks.specs.declared.partition.BlockSize.{BlockSize}
use Rattle.av1_blocks.specs.declared.partition.BlockSize.TheVariants.{BLOCK_4X4, BLOCK_8X8, BLOCK_16X16, BLOCK_32X32}
use Rattle.av1_blocks.specs.declared.partition.BlockSize.TheVariants.{BLOCK_64X64}
use Rattle.av1_blocks.specs.declared.partition.PartitionType.{PartitionType}
use Rattle.av1_blocks.specs.declared.partition.PartitionType.TheVariants.{PARTITION_NONE, PARTITION_HORZ}
use Rattle.av1_blocks.specs.declared.partition.PartitionType.TheVariants.{PARTITION_VERT, PARTITION_SPLIT}
use Rattle.av1_blocks.specs.declared.partition.PartitionType.TheVariants.{PARTITION_HORZ_A, PARTITION_HORZ_B}
use Rattle.av1_blocks.specs.declared.partition.PartitionType.TheVariants.{PARTITION_VERT_A, PARTITION_VERT_B}
use Rattle.av1_blocks.specs.declared.partition.PartitionType.TheVariants.{PARTITION_HORZ_4, PARTITION_VERT_4}
use Rattle.av1_blocks.specs.declared.partition.RefType.{RefType}
use Rattle.av1_blocks.specs.declared.partition.RefType.TheVariants.{INTRA_FRAME}
use Rattle.av1_blocks.specs.declared.partition.TheConstants.RefType as references_by_number
use Rattle.av1_blocks.specs.declared.predict.PredictionMode.{PredictionMode}
use Rattle.av1_blocks.specs.declared.predict.PredictionMode.TheVariants.{DC_PRED}
use Rattle.av1_blocks.specs.declared.predict.TheConstants.PredictionMode as modes
use Rattle.av1_blocks.specs.declared.transform.TxSize.{TxSize}
use Rattle.av1_blocks.specs.declared.transform.TxSize.TheVariants.{TX_4X4}
use Rattle.av1_blocks.specs.declared.transform.TheConstants.TxSize as tx_sizes
use Rattle.av1_blocks.specs.declared.transform.TxType.{TxType}
use Rattle.av1_blocks.specs.declared.transform.TxType.TheVariants.{DCT_DCT}
use Rattle.av1_blocks.specs.declared.transform.TheConstants.TxType as tx_types
use Rattle.av1_blocks.specs.Parts.{subsize}
use Rattle.av1_plan.specs.Format.{Length, one, two, four, Kind, Format, done, ◌>>=◌, field, any, nothing, lone, ◌++>◌}
use Rattle.av1_plan.specs.Format.{in_turn}
use Rattle.av1_plan.specs.Geometry.{coded_width, coded_height, plane_len, has_slot, is_inside, carries_chroma}
use Rattle.av1_plan.specs.Plan.{LeafValue, PlanValue}
use Rattle.av1_plan.specs.declared.header.Header.{Header}
use Rattle.av1_plan.specs.declared.leaf.Triple.{Triple}
use Rattle.av1_plan.specs.declared.leaf.ChromaMode.{ChromaMode}
use Rattle.av1_plan.specs.declared.leaf.ChromaMode.TheVariants.{Plain, Cfl}
use Rattle.av1_plan.specs.declared.leaf.LeafKind.{LeafKind}
use Rattle.av1_plan.specs.declared.leaf.LeafKind.TheVariants.{Intra, Single, Compound}

-- ---- kinds of fields

-- a number of this length that passes a test
abbrev pub where_ : Length → (ℕ → Bool) → Kind
where_ size admits = record { size = size; admits = admits }

-- a byte from first to last
abbrev pub byte_from : ℕ → ℕ → Kind
byte_from first last = where_ one (is_in_range first last)

-- ---- the bytes before the leaves

-- the four letters at the front, which name one of the three versions
abbrev pub is_magic : ℕ → Bool
is_magic v = v == from_le_bytes w32 (codes "RPL1") || v == from_le_bytes w32 (codes "RPL2")
    || v == from_le_bytes w32 (codes "RPL3")

-- the version that these letters name
abbrev pub version_of : ℕ → ℕ
version_of letters =
    if letters == from_le_bytes w32 (codes "RPL3") then 3 else
    if letters == from_le_bytes w32 (codes "RPL2") then 2 else 1

-- the version of the grammar
unfoldable pub version : Format ℕ
version = do
  letters ← field (where_ four is_magic)
  done (version_of letters)

-- a shown side of a frame, in luma samples: from 1 to 2048, and up to the second version a multiple of 8
abbrev pub is_side : (version : ℕ) → ℕ → Bool
is_side version v = (version == 3 || v % 8 == 0) && is_in_range 1 2048 v

-- bits of a sample
abbrev pub is_depth : ℕ → Bool
is_depth v = v == 8 || v == 10 || v == 12

-- the slots that LAST, LAST2, LAST3, GOLDEN, BWDREF, ALTREF2 and ALTREF name
unfoldable pub slots : Format (List ℕ)
slots = do
  last ← field (byte_from 0 7)
  last_2 ← field (byte_from 0 7)
  last_3 ← field (byte_from 0 7)
  golden ← field (byte_from 0 7)
  backward ← field (byte_from 0 7)
  alternate_2 ← field (byte_from 0 7)
  alternate ← field (byte_from 0 7)
  done (last ∷ last_2 ∷ last_3 ∷ golden ∷ backward ∷ alternate_2 ∷ alternate ∷ [])

-- the frame, and what holds for all leaves, in this version
unfoldable pub frame : ℕ → Format Header
frame version = do
  width ← field (where_ two (is_side version))
  height ← field (where_ two (is_side version))
  depth ← field (where_ one is_depth)
  sampling ← field (byte_from 0 2)
  filter ← field (byte_from 0 3)
  edge_filter ← field (byte_from 0 1)
  slots ← slots
  mask ← field (any one)
  done (record {
    version = version;
    width = width;
    height = height;
    depth = depth;
    sampling = sampling;
    filter = slice_index_or filter_modes.ALL filter REGULAR;
    edge_filter = edge_filter == 1;
    slots = slots;
    mask = mask;
  })

-- the fields before the reference samples
unfoldable pub header : Format Header
header = do
  version ← version
  frame version

-- a sample of a reference: one byte at depth 8, else two
abbrev pub sample : ℕ → Kind
sample depth = if depth == 8 then any one else where_ two (λ v. nat_lt v (2 ^ depth))

-- the samples of a plane of `len` samples, row by row
unfoldable pub plane : ℕ → ℕ → Format (List ℕ)
plane depth len = in_turn (λ _. lone (field (sample depth))) 0 len

-- the three planes of a reference
unfoldable pub reference : Header → Format (List (List ℕ))
reference h = do
  y ← plane h.depth (plane_len h 0)
  u ← plane h.depth (plane_len h 1)
  v ← plane h.depth (plane_len h 2)
  done (y ∷ u ∷ v ∷ [])

-- the planes of a slot, if it carries planes
unfoldable pub slot_planes : Header → ℕ → Format (Option (List (List ℕ)))
slot_planes h slot = if has_slot h slot then (reference h >>= λ planes. done (Some planes)) else done None

-- the eight slots, in rising order
unfoldable pub references : Header → Format (List (Option (List (List ℕ))))
references h = in_turn (λ slot. lone (slot_planes h slot)) 0 8

-- ---- leaves

-- a motion vector: down, then right, in eighths of a luma sample
unfoldable pub vector : Format MotionVector
vector = do
  row ← field (any two)
  col ← field (any two)
  done (record { row = cast_signed w16 row; col = cast_signed w16 col })

-- a reference frame, from LAST to ALTREF
unfoldable pub reference_frame : Format RefType
reference_frame = do
  number ← field (byte_from 1 7)
  done (slice_index_or references_by_number.ALL number INTRA_FRAME)

-- an intra mode and its angle step, or chroma from luma and its two weights
unfoldable pub chroma_mode : Format ChromaMode
chroma_mode = do
  mode ← field (byte_from 0 13)
  if mode == 13 then (do
    u ← field (any one)
    v ← field (any one)
    done (Cfl (cast_signed w8 u) (cast_signed w8 v))) else (do
      step ← field (any one)
      done (Plain (slice_index_or modes.ALL mode DC_PRED) (cast_signed w8 step)))

-- an intra leaf: an angle step, and a chroma mode if chroma is carried
unfoldable pub intra : Bool → PredictionMode → Format LeafKind
intra has_chroma mode = do
  step ← field (any one)
  if has_chroma then (do
    chroma ← chroma_mode
    done (Intra mode (cast_signed w8 step) (Some chroma))) else
      done (Intra mode (cast_signed w8 step) None)

-- a leaf predicted from one reference
unfoldable pub single : PredictionMode → Format LeafKind
single mode = do
  reference ← reference_frame
  mv ← vector
  done (Single mode reference mv)

-- a leaf predicted from two references
unfoldable pub compound : PredictionMode → Format LeafKind
compound mode = do
  reference ← reference_frame
  mv ← vector
  second ← reference_frame
  second_mv ← vector
  done (Compound mode (reference ∷ second ∷ []) (mv ∷ second_mv ∷ []))

-- the luma mode, and the fields that this mode needs
unfoldable pub leaf_kind : Bool → Format LeafKind
leaf_kind has_chroma = do
  number ← field (byte_from 0 33)
  if nat_lt number 14 then intra has_chroma (slice_index_or modes.ALL number DC_PRED)
      else if nat_lt number 20 then single (slice_index_or modes.ALL number DC_PRED)
      else compound (slice_index_or modes.ALL number DC_PRED)

-- the size of the luma transforms
unfoldable pub tx_size : Format TxSize
tx_size = do
  number ← field (byte_from 0 18)
  done (slice_index_or tx_sizes.ALL number TX_4X4)

-- the type of the luma or the chroma transforms
unfoldable pub tx_type : Format TxType
tx_type = do
  number ← field (byte_from 0 16)
  done (slice_index_or tx_types.ALL number DCT_DCT)

-- the type of the chroma transforms, if chroma is carried
unfoldable pub uv_type : Bool → Format (Option TxType)
uv_type true = tx_type >>= λ t. done (Some t)
uv_type false = done None

-- a coefficient: its block, its place there and its value
unfoldable pub triple : Format Triple
triple = do
  block ← field (any one)
  place ← field (any two)
  value ← field (any four)
  done (record { block = block; place = place; value = cast_signed w32 value })

-- a count, and that many triples
unfoldable pub triples : Format (List Triple)
triples = do
  count ← field (any two)
  in_turn (λ _. lone triple) 0 count

-- the triples of U and of V, if chroma is carried
unfoldable pub chroma_triples : Bool → Format (List (List Triple))
chroma_triples true = do
  u ← triples
  v ← triples
  done (u ∷ v ∷ [])
chroma_triples false = done ([] ∷ [] ∷ [])

-- a leaf of this size at column x and row y of luma
unfoldable pub leaf : Header → BlockSize → ℕ → ℕ → Format LeafValue
leaf h size x y = do
  kind ← leaf_kind (carries_chroma h x y size)
  tx_size ← tx_size
  tx_type ← tx_type
  uv_type ← uv_type (carries_chroma h x y size)
  luma ← triples
  chroma ← chroma_triples (carries_chroma h x y size)
  done (record {
    x = x;
    y = y;
    size = size;
    kind = kind;
    tx_size = tx_size;
    tx_type = tx_type;
    uv_type = uv_type;
    triples = luma ∷ chroma;
  })

-- ---- nodes

-- half the side of a node of this level, which has side 4 * 2 ^ level
abbrev pub half_side : ℕ → ℕ
half_side level = 2 * 2 ^ level

-- the size of a leaf that is a whole node of this level
unfoldable pub whole_size : ℕ → BlockSize
whole_size level = slice_index_or (BLOCK_4X4 ∷ BLOCK_8X8 ∷ BLOCK_16X16 ∷ BLOCK_32X32 ∷ BLOCK_64X64 ∷ []) level BLOCK_4X4

-- a quarter of the side of a node of this level
abbrev pub quarter_side : ℕ → ℕ
quarter_side level = 2 ^ level

-- the size of the parts of a node with this cut; if the node can't be cut so, its own size
unfoldable pub part_size : ℕ → PartitionType → BlockSize
part_size level partition = result_unwrap_or (subsize (whole_size level) partition) (whole_size level)

-- a part whose corner lies outside the frame isn't in the plan
abbrev pub inside : Header → ℕ → ℕ → Format (List LeafValue) → Format (List LeafValue)
inside h x y f = if is_inside h x y then f else nothing

-- a part that is a leaf
unfoldable pub leaf_part : Header → BlockSize → ℕ → ℕ → Format (List LeafValue)
leaf_part h size x y = inside h x y (lone (leaf h size x y))

-- the cut of a node with this mark
unfoldable pub cut_by : ℕ → PartitionType
cut_by mark =
    slice_index_or (PARTITION_NONE ∷ PARTITION_HORZ ∷ PARTITION_VERT ∷ PARTITION_SPLIT ∷ PARTITION_HORZ_A ∷
    PARTITION_HORZ_B ∷ PARTITION_VERT_A ∷ PARTITION_VERT_B ∷ PARTITION_HORZ_4 ∷ PARTITION_VERT_4 ∷ []) mark
    PARTITION_NONE

-- whether a node of this level may be cut into four leaves that are a quarter as wide or as high: from the second
-- version on, a node of side 16 to 64 (level 2 and up) that lies wholly in the coded frame
unfoldable pub admits_stripes : Header → ℕ → ℕ → ℕ → Bool
admits_stripes h level x y = nat_le 2 h.version && nat_le 2 level && nat_le (x + 2 * half_side level) (coded_width h)
    && nat_le (y + 2 * half_side level) (coded_height h)

-- a mark that a node may have: 0 to 3 (none, horizontal, vertical, split), or 8 or 9 (four leaves above one another or
-- side by side). Each of 0 to 3 is also valid if the lower or right half lies outside the frame; AV1 then has fewer
unfoldable pub is_mark : Header → ℕ → ℕ → ℕ → ℕ → Bool
is_mark h level x y v = nat_le v 3 || (is_in_range 8 9 v && admits_stripes h level x y)

-- the mark of a node: how it is cut
unfoldable pub mark : Header → ℕ → ℕ → ℕ → Format PartitionType
mark h level x y = do
  number ← field (where_ one (is_mark h level x y))
  done (cut_by number)

-- four leaves of this size, each `side` samples below the one before
unfoldable pub wide_stripes : Header → BlockSize → (side x y : ℕ) → Format (List LeafValue)
wide_stripes h size side x y =
    leaf_part h size x y ++> leaf_part h size x (y + side) ++> leaf_part h size x (y + 2 * side) ++> leaf_part h
    size x (y + 3 * side)

-- four leaves of this size, each `side` samples to the right of the one before
unfoldable pub tall_stripes : Header → BlockSize → (side x y : ℕ) → Format (List LeafValue)
tall_stripes h size side x y =
    leaf_part h size x y ++> leaf_part h size (x + side) y ++> leaf_part h size (x + 2 * side) y ++> leaf_part h
    size (x + 3 * side) y

-- the parts of a node of this level with this cut; `node` gives the part of half the side at a position
unfoldable pub parts : Header → ℕ → (ℕ → ℕ → Format (List LeafValue)) → ℕ → ℕ → PartitionType → Format (List LeafValue)
parts h level node x y PARTITION_NONE = leaf_part h (whole_size level) x y
parts h level node x y PARTITION_HORZ =
    leaf_part h (part_size level PARTITION_HORZ) x y ++> leaf_part h (part_size level PARTITION_HORZ) x
    (y + half_side level)
parts h level node x y PARTITION_VERT =
    leaf_part h (part_size level PARTITION_VERT) x y ++> leaf_part h (part_size level PARTITION_VERT)
    (x + half_side level) y
parts h level node x y PARTITION_HORZ_4 = wide_stripes h (part_size level PARTITION_HORZ_4) (quarter_side level) x y
parts h level node x y PARTITION_VERT_4 = tall_stripes h (part_size level PARTITION_VERT_4) (quarter_side level) x y
parts h level node x y _ =
    node x y ++> node (x + half_side level) y ++> node x (y + half_side level) ++> node (x + half_side level)
    (y + half_side level)

-- a part of side 4 * 2 ^ level: a 4x4 leaf at level 0, else a node
unfoldable pub block : Header → ℕ → ℕ → ℕ → Format (List LeafValue)
block h zero x y = leaf_part h BLOCK_4X4 x y
block h (suc level) x y = inside h x y (do
  partition ← mark h (suc level) x y
  parts h (suc level) (block h level) x y partition)

-- one row of the superblocks: those of side 64 whose corner lies in the frame
unfoldable pub superblock_row : Header → ℕ → Format (List LeafValue)
superblock_row h row = in_turn (λ col. block h 4 (64 * col) (64 * row)) 0 ((h.width + 63) / 64)

-- all superblocks, in raster order
unfoldable pub superblocks : Header → Format (List LeafValue)
superblocks h = in_turn (superblock_row h) 0 ((h.height + 63) / 64)

-- ---- the whole

-- the bytes after the reference samples of a plan with this header and these references: its leaves
unfoldable pub plan_behind : Header → List (Option (List (List ℕ))) → Format PlanValue
plan_behind header references = do
  leaves ← superblocks header
  done (record { header = header; references = references; leaves = leaves })

-- a plan: its header, its reference samples and its leaves
unfoldable pub plan : Format PlanValue
plan = do
  header ← header
  references ← references header
  plan_behind header references
