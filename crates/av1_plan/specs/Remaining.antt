-- The parts of a frame that remain to be coded, one after the other: nodes of the partition tree, each before its own
-- parts, and leaves. AV1 specification: decode partition syntax.
use Rattle.std.specs.Prelude.{ℕ, zero, suc, ◌+◌, ◌-◌, ◌*◌, ◌/◌, if◌then◌else◌, List, [], ◌∷◌, Option, Some, None}
use Rattle.av1_blocks.specs.declared.partition.BlockSize.{BlockSize}
use Rattle.av1_blocks.specs.declared.partition.BlockSize.TheVariants.{BLOCK_4X4}
use Rattle.av1_blocks.specs.declared.partition.PartitionType.{PartitionType}
use Rattle.av1_blocks.specs.declared.partition.PartitionType.TheVariants.{PARTITION_NONE, PARTITION_HORZ}
use Rattle.av1_blocks.specs.declared.partition.PartitionType.TheVariants.{PARTITION_VERT, PARTITION_HORZ_4}
use Rattle.av1_blocks.specs.declared.partition.PartitionType.TheVariants.{PARTITION_VERT_4}
use Rattle.av1_plan.specs.declared.header.Header.{Header}
use Rattle.av1_plan.specs.Format.{Format, ◌>>=◌, lone, nothing, ◌++>◌}
use Rattle.av1_plan.specs.Geometry.{is_inside}
use Rattle.av1_plan.specs.Grammar.{half_side, quarter_side, whole_size, part_size, mark, parts, block}
use Rattle.av1_plan.specs.Grammar as grammar
use Rattle.av1_plan.specs.Plan.{LeafValue}
use Rattle.av1_plan.specs.declared.nodes.Part.{Part}
use Rattle.av1_plan.specs.declared.nodes.Part.TheVariants.{Node, Leaf}

-- ---- parts

-- the first of some parts
abbrev pub first_part : List Part → Option Part
first_part [] = None
first_part (p ∷ parts) = Some p

-- the parts after the first
abbrev pub later_parts : List Part → List Part
later_parts [] = []
later_parts (p ∷ parts) = parts

-- the fields of a part: of a node, which begins with its mark, or of a leaf
unfoldable pub part_format : Header → Part → Format (List LeafValue)
part_format h (Node level x y) = mark h level x y >>= parts h level (block h (level - 1)) x y
part_format h (Leaf size x y) = lone (grammar.leaf h size x y)

-- the fields of parts, one after the other
unfoldable pub parts_format : Header → List Part → Format (List LeafValue)
parts_format h [] = nothing
parts_format h (p ∷ ps) = part_format h p ++> parts_format h ps

-- a part before the others if its corner lies in the frame; if not, it isn't in the plan
abbrev pub if_inside : Header → (x y : ℕ) → Part → List Part → List Part
if_inside h x y p others = if is_inside h x y then p ∷ others else others

-- a leaf before the others
abbrev pub leaf_before : Header → BlockSize → (x y : ℕ) → List Part → List Part
leaf_before h size x y others = if_inside h x y (Leaf size x y) others

-- the part of side 4 * 2 ^ level at this position before the others: a 4x4 leaf at level 0, else a node
unfoldable pub block_before : Header → (level x y : ℕ) → List Part → List Part
block_before h zero x y others = leaf_before h BLOCK_4X4 x y others
block_before h (suc level) x y others = if_inside h x y (Node (suc level) x y) others

-- the parts of a node of side 4 * 2 ^ level with this cut, before the others
unfoldable pub cut_before : Header → (level x y : ℕ) → PartitionType → List Part → List Part
cut_before h level x y PARTITION_NONE others = leaf_before h (whole_size level) x y others
cut_before h level x y PARTITION_HORZ others =
    let wide = part_size level PARTITION_HORZ in
    leaf_before h wide x y (leaf_before h wide x (y + half_side level) others)
cut_before h level x y PARTITION_VERT others =
    let tall = part_size level PARTITION_VERT in
    leaf_before h tall x y (leaf_before h tall (x + half_side level) y others)
cut_before h level x y PARTITION_HORZ_4 others =
    let wide = part_size level PARTITION_HORZ_4 in
    let side = quarter_side level in
    leaf_before h wide x y
    (leaf_before h wide x (y + side)
    (leaf_before h wide x (y + 2 * side) (leaf_before h wide x (y + 3 * side) others)))
cut_before h level x y PARTITION_VERT_4 others =
    let tall = part_size level PARTITION_VERT_4 in
    let side = quarter_side level in
    leaf_before h tall x y
    (leaf_before h tall (x + side) y
    (leaf_before h tall (x + 2 * side) y (leaf_before h tall (x + 3 * side) y others)))
cut_before h level x y _ others =
    let half = half_side level in
    block_before h (level - 1) x y
    (block_before h (level - 1)
    (x + half) y (block_before h (level - 1) x (y + half)
    (block_before h (level - 1) (x + half) (y + half) others)))

-- the parts of the first part, a node with this cut, before the others
abbrev pub cut_first : Header → List Part → PartitionType → List Part
cut_first h (Node level x y ∷ others) cut = cut_before h level x y cut others
cut_first h parts cut = parts

-- ---- superblocks

-- the number of superblocks of 64x64 luma samples side by side, and then one above the other
abbrev pub across : Header → ℕ
across h = (h.width + 63) / 64

abbrev pub down : Header → ℕ
down h = (h.height + 63) / 64

-- the superblocks of a row from this column on, n of them, before the others
unfoldable pub row_before : Header → (row col n : ℕ) → List Part → List Part
row_before h row col zero others = others
row_before h row col (suc n) others = block_before h 4 (64 * col) (64 * row) (row_before h row (col + 1) n others)

-- the superblocks of n rows from this one on, in raster order
unfoldable pub rows_of : Header → (row n : ℕ) → List Part
rows_of h row zero = []
rows_of h row (suc n) = row_before h row 0 (across h) (rows_of h (row + 1) n)

-- the superblocks of a row from this column on, and of the rows below
abbrev pub superblocks_from : Header → (row col : ℕ) → List Part
superblocks_from h row col = row_before h row col (across h - col) (rows_of h (row + 1) (down h - (row + 1)))
