-- The leaves of a plan are in coding order: they are the leaves of trees of marks, one tree for each superblock of the
-- frame. AV1 specification: decode partition syntax.
use Rattle.std.specs.Prelude.{◌≡◌, ℕ, ◌+◌, ◌*◌, ◌/◌, ◌%◌, ◌≤◌, true, List, length, map}
use Rattle.av1_blocks.specs.Blocks.{block_width, block_height}
use Rattle.av1_plan.specs.declared.header.Header.{Header}
use Rattle.av1_plan.specs.Geometry.{is_inside, coded_width, coded_height}
use Rattle.av1_plan.specs.Plan.{LeafValue}
use Rattle.av1_plan.specs.Tree.{Block, Placed, Tree, frame_leaves}

-- the cells of 4 by 4 luma samples that a leaf covers
abbrev pub cells_of : LeafValue → Block
cells_of l = record { x = l.x / 4; y = l.y / 4; columns = block_width l.size / 4; rows = block_height l.size / 4 }

-- the cells of a leaf, and what `code` gives for the leaf
abbrev pub placed : {A : Type 0} → (LeafValue → A) → LeafValue → Placed A
placed code l = record { block = cells_of l; content = code l }

-- the leaf begins in the frame, at a cell and at a multiple of its width and height, and ends in the superblock in
-- which it begins
pub record IsOnGrid (h : Header) (l : LeafValue) : Type 0 where
  pub cell_x : l.x % 4 ≡ 0
  pub cell_y : l.y % 4 ≡ 0
  pub side_x : l.x % block_width l.size ≡ 0
  pub side_y : l.y % block_height l.size ≡ 0
  pub end_x : l.x % 64 + block_width l.size ≤ 64
  pub end_y : l.y % 64 + block_height l.size ≤ 64
  pub within : is_inside h l.x l.y ≡ true

-- A leaf with one side four times the other ends in the frame. It is a quarter of a node, and only nodes that lie in
-- the frame are cut into such quarters.
pub record IsQuarterInside (h : Header) (l : LeafValue) : Type 0 where
  pub wide : block_width l.size ≡ 4 * block_height l.size → l.x + block_width l.size ≤ coded_width h
  pub high : block_height l.size ≡ 4 * block_width l.size → l.y + block_height l.size ≤ coded_height h

-- neither side of the leaf is more than twice the other
pub record IsTwoToOne (l : LeafValue) : Type 0 where
  pub not_wide : block_width l.size ≤ 2 * block_height l.size
  pub not_high : block_height l.size ≤ 2 * block_width l.size

-- the number of superblocks of 16x16 cells that begin in a frame of `columns` by `rows` cells
abbrev pub superblock_count : (columns rows : ℕ) → ℕ
superblock_count columns rows = (columns + 15) / 16 * ((rows + 15) / 16)

-- the leaves, each with what `code` gives for it, are the leaves of one tree for each superblock
abbrev pub AreInCodingOrder : {A : Type 0} → Header → (LeafValue → A) → List LeafValue → Type 0
AreInCodingOrder {A} h code leaves =
    (trees : List (Tree A 4)) × (length trees ≡ superblock_count (coded_width h / 4) (coded_height h / 4))
    × (frame_leaves (coded_width h / 4) (coded_height h / 4) trees ≡ map (placed code) leaves)
