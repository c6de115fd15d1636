-- What a walk over the partition tree of a frame has left, and where it may stop.
use Rattle.std.specs.Prelude.{ℕ, zero, suc, ◌+◌, ◌*◌, ◌==◌, Bool, ◌&&◌, ◌||◌, nat_lt, nat_le, List, [], ◌∷◌, ◌++◌}
use Rattle.av1_plan.specs.declared.header.Header.{Header}
use Rattle.av1_plan.specs.declared.nodes.Part.{Part}
use Rattle.av1_plan.specs.declared.nodes.Part.TheVariants.{Node, Leaf}
use Rattle.av1_plan.specs.declared.part_stack.Stacked.{Stacked}
use Rattle.av1_plan.specs.declared.superblocks.Superblocks.{Superblocks}
use Rattle.av1_plan.specs.declared.tree_walk.TreeWalk.{TreeWalk}
use Rattle.av1_plan.specs.Remaining.{across, down, superblocks_from}
use Rattle.av1_plan.specs.Stacks.{on_top, have_room}

-- the parts that remain: those of the superblock that is begun, and then the superblocks after it
abbrev pub remaining : TreeWalk → List Part
remaining w = w.parts ++ superblocks_from w.header w.left.row w.left.col

-- ---- where a walk stops

-- the parts that remain for a walk that stopped with these parts on its stack
abbrev pub stopped_at : Header → Stacked → Superblocks → List Part
stopped_at h s left = on_top s.parts s.count ++ superblocks_from h left.row left.col

-- whether these are parts on a stack: not more than it holds, and each leaves room for its own parts
abbrev pub are_stacked : Stacked → Bool
are_stacked s = nat_le s.count 13 && have_room (on_top s.parts s.count)

-- whether a superblock of the frame is at this row and column, or they are the position after the last one: past the
-- last column, in the last row
unfoldable pub is_next_superblock : Header → (row col : ℕ) → Bool
is_next_superblock h row col =
    nat_lt row (down h) && (nat_lt col (across h) || (col == across h && nat_le (down h) (row + 1)))

-- whether a walk over this frame may stop there
abbrev pub is_stopped : Header → Stacked → Superblocks → Bool
is_stopped h s left = is_next_superblock h left.row left.col && are_stacked s

-- ---- how long a walk goes on

-- the greatest number of nodes and leaves in a node, the node included
abbrev pub node_weight : ℕ → ℕ
node_weight zero = 1
node_weight (suc level) = 1 + 4 * node_weight level

-- the same number for a part
abbrev pub part_weight : Part → ℕ
part_weight (Node level x y) = node_weight level
part_weight (Leaf size x y) = 1

-- the same number for several parts; each step of a walk makes it less
abbrev pub weight : List Part → ℕ
weight [] = 0
weight (p ∷ ps) = part_weight p + weight ps
