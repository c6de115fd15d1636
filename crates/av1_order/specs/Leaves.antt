-- The positions of the leaves of a frame: each is on its grid, and each cell of the frame is in exactly one of them.
-- AV1 specification: decode partition syntax.
use Rattle.std.specs.Prelude.{◌≡◌, true, false, ℕ, Bool, ◌+◌, ◌*◌, ◌/◌, ◌%◌, ◌^◌, ◌<◌, ◌≤◌, ◌||◌, List, [], ◌∷◌, take}
use Rattle.std.specs.Prelude.{length, get_or}
use Rattle.std.specs.List.{All}
use Rattle.av1_plan.specs.CodingOrder.{superblock_count}
use Rattle.av1_plan.specs.Tree.{Block, Placed, Tree, frame_leaves}
use Rattle.av1_avail.specs.Order.{is_in}
use Rattle.av1_order.specs.Steps.{Coding}

-- The rectangle of a leaf. Its sides are 1, 2, 4, 8 or 16 cells, and neither is more than four times the other. It lies
-- at multiples of its sides, begins in the frame and ends within the frame's superblocks.
pub record IsLeafBlock (width height : ℕ) (b : Block) : Type 0 where
  pub columns_log : ℕ
  pub rows_log : ℕ
  pub columns_power : b.columns ≡ 2 ^ columns_log
  pub rows_power : b.rows ≡ 2 ^ rows_log
  pub columns_small : columns_log ≤ 4
  pub rows_small : rows_log ≤ 4
  pub not_wide : columns_log ≤ rows_log + 2
  pub not_high : rows_log ≤ columns_log + 2
  pub across : b.x % b.columns ≡ 0
  pub along : b.y % b.rows ≡ 0
  pub begins_x : b.x < width
  pub begins_y : b.y < height
  pub ends_x : b.x + b.columns ≤ 16 * ((width + 15) / 16)
  pub ends_y : b.y + b.rows ≤ 16 * ((height + 15) / 16)

-- the rectangle of each leaf is such a rectangle
abbrev pub LeavesLieOnGrid : Type 0
LeavesLieOnGrid = (width height : ℕ) (trees : List (Tree Coding 4)) → 0 < width →
    All (λ l. IsLeafBlock width height l.block) (frame_leaves width height trees)

-- the leaf's rectangle holds the cell
abbrev pub holds_cell : {A : Type 0} → Placed A → (x y : ℕ) → Bool
holds_cell l x y = is_in x y l.block.x l.block.y l.block.columns l.block.rows

-- one of the leaves holds the cell
abbrev pub is_coded : {A : Type 0} → List (Placed A) → (x y : ℕ) → Bool
is_coded [] x y = false
is_coded (l ∷ ls) x y = holds_cell l x y || is_coded ls x y

-- No leaf holds a cell that an earlier leaf holds. If there are as many superblocks as the frame has, some leaf holds
-- each cell.
pub record LeavesTile (width height : ℕ) (trees : List (Tree Coding 4)) : Type 0 where
  pub once : (k : ℕ) (none : Placed Coding) → k < length (frame_leaves width height trees) → (x y : ℕ) → x < width →
      y < height
      → holds_cell (get_or (frame_leaves width height trees) k none) x y ≡ true →
      is_coded (take k (frame_leaves width height trees)) x y ≡ false
  pub all : length trees ≡ superblock_count width height → (x y : ℕ) → x < width → y < height →
      is_coded (frame_leaves width height trees) x y ≡ true

-- so the leaves of each frame tile it
abbrev pub FramesAreTiled : Type 0
FramesAreTiled = (width height : ℕ) (trees : List (Tree Coding 4)) → 0 < width → LeavesTile width height trees
