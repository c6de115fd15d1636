-- The leaves of a plan decide its marks.
use Rattle.std.specs.Prelude.{◌≡◌, ℕ, ◌^◌, true, List, ◌∷◌, nat_lt, ◌&&◌}
use Rattle.av1_blocks.specs.declared.partition.PartitionType.{PartitionType}
use Rattle.av1_blocks.specs.declared.partition.PartitionType.TheVariants.{PARTITION_NONE, PARTITION_HORZ}
use Rattle.av1_blocks.specs.declared.partition.PartitionType.TheVariants.{PARTITION_VERT, PARTITION_SPLIT}
use Rattle.av1_blocks.specs.declared.partition.PartitionType.TheVariants.{PARTITION_HORZ_4, PARTITION_VERT_4}
use Rattle.av1_plan.specs.Plan.{LeafValue}
use Rattle.av1_plan.specs.Tree.{Tree, Placed, none, horz, vert, horz_4, vert_4, split, node_leaves}
use Rattle.av1_planwrite.specs.Text.{cut_by_sides}

-- how a node is cut whose leaves form this tree
abbrev pub cut_at : {k : ℕ} → Tree LeafValue k → PartitionType
cut_at (none a) = PARTITION_NONE
cut_at (horz a b) = PARTITION_HORZ
cut_at (vert a b) = PARTITION_VERT
cut_at (horz_4 a b c d) = PARTITION_HORZ_4
cut_at (vert_4 a b c d) = PARTITION_VERT_4
cut_at (split a b c d) = PARTITION_SPLIT

-- A node that begins in the frame has a first leaf. The leaf's dimensions, in cells, say how the node is cut.
abbrev pub FirstLeafFixesMark : Type 0
FirstLeafFixesMark =
    (width height k x y : ℕ) (t : Tree LeafValue k) → (nat_lt x width && nat_lt y height) ≡ true
    → (l : Placed LeafValue) × (rest : List (Placed LeafValue)) × (node_leaves width height t x y ≡ l ∷ rest) ×
    (cut_by_sides (2 ^ k) l.block.columns l.block.rows ≡ cut_at t)
