-- The aligned square that holds a block: its side is the block's greater side, and it begins at node_x and node_y.
use Rattle.std.specs.Prelude.{ℕ, ◌-◌, ◌%◌, max}
use Rattle.av1_plan.specs.Tree.{Block}

abbrev pub node_side : Block → ℕ
node_side b = max b.columns b.rows

abbrev pub node_x : Block → ℕ
node_x b = b.x - b.x % node_side b

abbrev pub node_y : Block → ℕ
node_y b = b.y - b.y % node_side b
