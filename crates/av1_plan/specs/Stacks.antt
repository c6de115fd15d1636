-- Parts on a stack: definitions for private contracts.
use Rattle.std.specs.Prelude.{ℕ, ◌+◌, ◌*◌, Bool, true, ◌&&◌, nat_lt, nat_le, List, [], ◌∷◌, length, take, reverse}
use Rattle.av1_plan.specs.declared.nodes.Part.{Part}
use Rattle.av1_plan.specs.declared.nodes.Part.TheVariants.{Node, Leaf}

-- the first `count` of these parts, the last one on top
abbrev pub on_top : List Part → ℕ → List Part
on_top parts count = reverse (take count parts)

-- a part with `below` parts below it leaves room on the stack for its own parts: a node leaves three on each level
-- below its own
unfoldable pub has_room : Part → ℕ → Bool
has_room (Node level x y) below = nat_le 1 level && nat_le level 4 && nat_lt x 2048 && nat_lt y 2048
    && nat_lt (3 * level + below) 13
has_room (Leaf size x y) below = nat_lt below 13

-- each part on the stack leaves that room
unfoldable pub have_room : List Part → Bool
have_room [] = true
have_room (p ∷ parts) = has_room p (length parts) && have_room parts
