-- The plan of a number in a version of the grammar: what is drawn and what is written, field by field.
use Rattle.std.specs.Prelude.{ℕ, zero, suc, codes, ◌+◌, ◌-◌, ◌*◌, ◌/◌, ◌%◌, ◌^◌, ◌==◌, Bool, if◌then◌else◌, List}
use Rattle.std.specs.Prelude.{[], ◌∷◌, slice_index_or}
use Rattle.std.specs.Int.{w32, from_le_bytes, is_in_range}
use Rattle.av1_blocks.specs.declared.mc.FilterMode.TheVariants.{REGULAR}
use Rattle.av1_blocks.specs.declared.mc.TheConstants.FilterMode as filter_modes
use Rattle.av1_blocks.specs.declared.partition.BlockSize.{BlockSize}
use Rattle.av1_blocks.specs.declared.partition.BlockSize.TheVariants.{BLOCK_4X4}
use Rattle.av1_blocks.specs.declared.partition.PartitionType.TheVariants.{PARTITION_HORZ, PARTITION_VERT}
use Rattle.av1_blocks.specs.declared.transform.TxSize.{TxSize}
use Rattle.av1_blocks.specs.declared.transform.TxSize.TheVariants.{TX_4X4, TX_32X32, TX_64X64}
use Rattle.av1_blocks.specs.Blocks.{cfl_allowed}
use Rattle.av1_blocks.specs.Chroma.{largest_chroma_tx_size}
use Rattle.av1_blocks.specs.Transforms.{tx_number, tx_sqr_up, block_tx_size}
use Rattle.av1_plan.specs.declared.header.Header.{Header}
use Rattle.av1_plan.specs.Format.{Length, one, two, four, limit}
use Rattle.av1_plan.specs.Geometry.{carries_chroma, shown_columns, shown_rows}
use Rattle.av1_plan.specs.Grammar.{half_side, whole_size, part_size}
use Rattle.av1_plan.specs.Validity.{admits_references}
use Rattle.av1_plan.specs.Draft.{Draft, writes, draws, ◌>>◌, only_if, each, written}
use Rattle.av1_plan.specs.Numbers.{drawn}

-- ---- numbers

-- a number less another, in two's complement
unfoldable pub less : Length → ℕ → ℕ → ℕ
less size v by = (v + (limit size - by)) % limit size

-- ---- the bytes before the leaves

-- a shown side of the frame: 512, or in the third version up to 7 less
unfoldable pub shown_side : (version v : ℕ) → ℕ
shown_side version v = if version == 3 then 512 - v % 8 else 512

-- the frame: 512 by 512 coded luma samples, depth 10, 4:2:0. Every reference names slot 0, the only slot with planes
unfoldable pub frame : (version number : ℕ) → Header
frame version number = record {
  version = version;
  width = shown_side version number;
  height = shown_side version (number / 8);
  depth = 10;
  sampling = 0;
  filter = slice_index_or filter_modes.ALL (number % 4) REGULAR;
  edge_filter = number / 4 % 2 == 1;
  slots = 0 ∷ 0 ∷ 0 ∷ 0 ∷ 0 ∷ 0 ∷ 0 ∷ [];
  mask = 1;
}

-- every reference names slot 0
unfoldable pub slots : Draft
slots = each (λ _. writes one 0) 0 7

-- the four letters at the front: the last is the digit of the version
unfoldable pub letters : (version : ℕ) → ℕ
letters version = from_le_bytes w32 (codes "RPL0") + 2 ^ 24 * version

-- the header's fields
unfoldable pub header : (version number : ℕ) → Draft
header version number =
    writes four (letters version) >> writes two (shown_side version number)
    >> writes two (shown_side version (number / 8)) >> writes one 10 >> writes one 0
    >> writes one (number % 4) >> writes one (number / 4 % 2) >> slots >> writes one 1

-- the sample of plane p of slot 0 at column x and row y
unfoldable pub sample : ℕ → ℕ → ℕ → ℕ → ℕ
sample number p x y = (7 * x + 13 * y + 101 * p + number % 1024) % 1024

-- row y of plane p of slot 0
unfoldable pub row : Header → ℕ → ℕ → ℕ → Draft
row h number p y = each (λ x. writes two (sample number p x y)) 0 (shown_columns h p)

-- plane p of slot 0, row by row
unfoldable pub plane : Header → ℕ → ℕ → Draft
plane h number p = each (row h number p) 0 (shown_rows h p)

-- the planes of slot 0
unfoldable pub reference : Header → ℕ → Draft
reference h number = plane h number 0 >> plane h number 1 >> plane h number 2

-- ---- how a leaf is predicted

-- the step on the angle of the mode with this number: from -3 to 3 on the modes 1 to 8, which have an angle
unfoldable pub step : ℕ → Draft
step mode = if is_in_range 1 8 mode then draws 7 (λ v. writes one (less one v 3)) else writes one 0

-- a weight of chroma from luma, from -16 to 16
unfoldable pub weight : Draft
weight = draws 33 (λ v. writes one (less one v 16))

-- the fields after the chroma mode with this number: two weights after 13 (chroma from luma), else an angle step
unfoldable pub chroma_step : ℕ → Draft
chroma_step mode = if mode == 13 then weight >> weight else step mode

-- the number of chroma modes that a leaf of this size may have: chroma from luma is for sides up to 32
unfoldable pub chroma_modes : BlockSize → ℕ
chroma_modes size = if cfl_allowed size then 14 else 13

unfoldable pub chroma_mode : BlockSize → Draft
chroma_mode size = draws (chroma_modes size) (λ mode. writes one mode >> chroma_step mode)

-- an intra leaf, with its chroma mode if it carries chroma
unfoldable pub intra : BlockSize → Bool → Draft
intra size carried = draws 13 (λ mode. writes one mode >> step mode >> only_if carried (chroma_mode size))

-- a row or a column of a vector, from -128 to 128 eighths of a sample
unfoldable pub component : Draft
component = draws 257 (λ v. writes two (less two v 128))

-- a reference from 1 to 7 and its vector
unfoldable pub motion : Draft
motion = draws 7 (λ v. writes one (1 + v)) >> component >> component

-- a leaf predicted from one reference
unfoldable pub single : Draft
single = draws 6 (λ v. writes one (14 + v)) >> motion

-- a leaf predicted from two references
unfoldable pub compound : Draft
compound = draws 14 (λ v. writes one (20 + v)) >> motion >> motion

-- the kind with this number
unfoldable pub kind_of : BlockSize → Bool → ℕ → Draft
kind_of size carried zero = intra size carried
kind_of size carried (suc zero) = intra size carried
kind_of size carried (suc (suc zero)) = single
kind_of size carried (suc (suc (suc n))) = compound

-- the kind of a leaf. If its size allows references, it is intra in 2 of 4 draws, and has one reference or two in 1 of
-- 4 each. Otherwise it is intra
unfoldable pub kind : Header → BlockSize → Bool → Draft
kind h size carried = if admits_references h size then draws 4 (kind_of size carried) else intra size carried

-- ---- how it is transformed

-- the type of a transform, by the square of its greater side: only the cosine transform at 64, also the identity (9) at
-- 32, and any type except the Walsh-Hadamard transform below
unfoldable pub type_within : TxSize → Draft
type_within TX_64X64 = writes one 0
type_within TX_32X32 = draws 2 (λ v. writes one (9 * v))
type_within _ = draws 16 (λ v. writes one v)

unfoldable pub tx_type : TxSize → Draft
tx_type size = type_within (tx_sqr_up size)

-- the size of luma's transforms: the block's own or 4x4
unfoldable pub luma_tx_size : BlockSize → ℕ → TxSize
luma_tx_size size zero = block_tx_size size
luma_tx_size size (suc n) = TX_4X4

-- luma's transforms
unfoldable pub luma_transforms : BlockSize → Draft
luma_transforms size = draws 2 (λ v. writes one (tx_number (luma_tx_size size v)) >> tx_type (luma_tx_size size v))

-- ---- coefficients

-- the coefficient at place j of the first block, from -200 to 200
unfoldable pub triple : ℕ → Draft
triple j = writes one 0 >> writes two j >> draws 401 (λ v. writes four (less four v 200))

-- up to three coefficients
unfoldable pub triples : Draft
triples = draws 4 (λ n. writes two n >> each triple 0 n)

-- the coefficients of U and V, if chroma is carried
unfoldable pub chroma_triples : Bool → Draft
chroma_triples carried = only_if carried (triples >> triples)

-- ---- leaves and nodes

-- a leaf of this size, with chroma or without
unfoldable pub leaf : Header → BlockSize → Bool → Draft
leaf h size carried =
    kind h size carried >> luma_transforms size >> only_if carried (tx_type (largest_chroma_tx_size size 1 1))
    >> triples >> chroma_triples carried

-- a leaf of this size at column x and row y of luma
unfoldable pub leaf_part : Header → BlockSize → ℕ → ℕ → Draft
leaf_part h size x y = leaf h size (carries_chroma h x y size)

-- the parts of a node of this level by its mark (none, horizontal, vertical, split); `quarter` gives the part of half
-- the side at a position
unfoldable pub parts : Header → ℕ → (ℕ → ℕ → Draft) → ℕ → ℕ → ℕ → Draft
parts h level quarter x y zero = leaf_part h (whole_size level) x y
parts h level quarter x y (suc zero) =
    leaf_part h (part_size level PARTITION_HORZ) x y >> leaf_part h (part_size level PARTITION_HORZ) x
    (y + half_side level)
parts h level quarter x y (suc (suc zero)) =
    leaf_part h (part_size level PARTITION_VERT) x y >> leaf_part h (part_size level PARTITION_VERT)
    (x + half_side level) y
parts h level quarter x y (suc (suc (suc mark))) =
    quarter x y >> quarter (x + half_side level) y >> quarter x (y + half_side level) >> quarter (x + half_side level)
    (y + half_side level)

-- a part of side 4 * 2 ^ level: a 4x4 leaf at level 0, else a node, whose mark is drawn
unfoldable pub block : Header → ℕ → ℕ → ℕ → Draft
block h zero x y = leaf_part h BLOCK_4X4 x y
block h (suc level) x y = draws 4 (λ mark. writes one mark >> parts h (suc level) (block h level) x y mark)

-- the superblocks of a row
unfoldable pub superblock_row : Header → ℕ → Draft
superblock_row h row = each (λ col. block h 4 (64 * col) (64 * row)) 0 8

-- all superblocks, in raster order
unfoldable pub superblocks : Header → Draft
superblocks h = each (superblock_row h) 0 8

-- ---- the whole

unfoldable pub plan : (version number : ℕ) → Draft
plan version number =
    header version number >> reference (frame version number) number >> superblocks (frame version number)

-- the bytes of the plan of a number in a version; the number is also the seed of the draws
unfoldable pub plan_bytes_in : (version number : ℕ) → List ℕ
plan_bytes_in version number = (written suc (drawn number) (plan version number) ([], 0)).0

-- the bytes of the plan of a number in the first version
unfoldable pub plan_bytes : ℕ → List ℕ
plan_bytes number = plan_bytes_in 1 number
