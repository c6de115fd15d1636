-- Chroma that leaves with a side of 4 share. If all of them are inter leaves, each predicts the part over its own luma.
-- If not, the last leaf, which carries the chroma, predicts the whole block.
-- AV1 specification: compute prediction syntax (candRow, candCol, predW, predH, someUseIntra).
use Rattle.std.specs.Prelude.{ℕ, ◌-◌, ◌/◌, ◌||◌, Bool, if◌then◌else◌, List, [], ◌∷◌, ◌++◌, Option, Some, None}
use Rattle.av1_blocks.specs.Chroma.{is_low, is_narrow}
use Rattle.av1_order.specs.Neighbours.{noted}
use Rattle.av1_plan.specs.declared.header.Header.{Header}
use Rattle.av1_plan.specs.Geometry.{xdec, ydec}
use Rattle.av1_plan.specs.Plan.{LeafValue}
use Rattle.av1_tile.specs.declared.motion.Motion.{Motion}
use Rattle.av1_tile.specs.declared.shared_chroma.MotionParts.{MotionParts}
use Rattle.av1_tile.specs.Motion.{motion_of}

-- the motion of a leaf, if there is a leaf and it is an inter leaf
abbrev pub motion_in : Option LeafValue → Option Motion
motion_in (Some leaf) = motion_of leaf.kind
motion_in None = None

-- the parts of a block, if the leaves of all parts are inter leaves
abbrev pub in_parts : (narrow low : Bool) → (corner over side own : Option Motion) → Option MotionParts
in_parts narrow low (Some corner) (Some over) (Some side) (Some own) =
    Some (record { narrow = narrow; low = low; corner = corner; over = over; side = side; own = own })
in_parts narrow low _ _ _ _ = None

-- The parts of a block whose last cell is at column cx of row cy; `at` gives the motion of a cell. There are two
-- columns if the block is narrow, and two rows if it is low. A block that is neither has no parts.
abbrev pub parts_at : (narrow low : Bool) → (at : ℕ → ℕ → Option Motion) → (cx cy : ℕ) → Option MotionParts
parts_at narrow low at cx cy =
    let left = if narrow then cx - 1 else cx in
    let top = if low then cy - 1 else cy in
    if narrow || low then in_parts narrow low (at left top) (at cx top) (at left cy) (at cx cy) else None

-- The parts of a leaf's block in plane p, after the earlier leaves: the leaf of a part is the last one that was noted
-- in its cell. In luma nothing is halved, so there are no parts.
abbrev pub parts_in : Header → (earlier : List LeafValue) → (p : ℕ) → LeafValue → Option MotionParts
parts_in h earlier p leaf =
    parts_at (is_narrow leaf.size (xdec h p)) (is_low leaf.size (ydec h p))
    (λ cx cy. motion_in (noted (earlier ++ leaf ∷ []) cx cy)) (leaf.x / 4) (leaf.y / 4)
