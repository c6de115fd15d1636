-- Coding order: the leaves of a frame, one after the other, as the marks of its nodes give them. Positions and sides
-- are counted in cells of 4x4 luma samples. AV1 specification: decode partition syntax.
use Rattle.std.specs.Prelude.{ℕ, suc, ◌+◌, ◌*◌, ◌^◌, nat_lt, ◌&&◌, if◌then◌else◌, List, [], ◌∷◌, ◌++◌}

-- a rectangle of cells
pub record Block : Type 0 where
  pub x : ℕ
  pub y : ℕ
  pub columns : ℕ
  pub rows : ℕ

-- a leaf: its rectangle, and what is coded there
pub record Placed (A : Type 0) : Type 0 where
  pub block : Block
  pub content : A

-- A node whose side is 2 ^ k cells, by its mark: whole, in halves or in quarters of its height or its width, or split
-- into four nodes.
pub data Tree (A : Type 0) : ℕ → Type 0 where
  none : {k : ℕ} → A → Tree A k
  horz : {k : ℕ} → A → A → Tree A (suc k)
  vert : {k : ℕ} → A → A → Tree A (suc k)
  horz_4 : {k : ℕ} → A → A → A → A → Tree A (suc (suc k))
  vert_4 : {k : ℕ} → A → A → A → A → Tree A (suc (suc k))
  split : {k : ℕ} → Tree A k → Tree A k → Tree A k → Tree A k → Tree A (suc k)

-- a frame of `width` by `height` cells
module _ {A : Type 0} (width height : ℕ) where
  -- a part whose corner lies outside the frame isn't coded
  abbrev pub kept : (x y : ℕ) → List (Placed A) → List (Placed A)
  kept x y leaves = if nat_lt x width && nat_lt y height then leaves else []

  abbrev pub part_leaves : (x y columns rows : ℕ) → A → List (Placed A)
  part_leaves x y columns rows a =
      kept x y (record { block = record { x = x; y = y; columns = columns; rows = rows }; content = a } ∷ [])

  -- the leaves of the node with its corner at this cell
  abbrev pub node_leaves : {k : ℕ} → Tree A k → (x y : ℕ) → List (Placed A)
  node_leaves (none {k = k} a) x y = part_leaves x y (2 ^ k) (2 ^ k) a
  node_leaves (horz {k = k} a b) x y =
      part_leaves x y (2 * 2 ^ k) (2 ^ k) a ++ part_leaves x (y + 2 ^ k) (2 * 2 ^ k) (2 ^ k) b
  node_leaves (vert {k = k} a b) x y =
      part_leaves x y (2 ^ k) (2 * 2 ^ k) a ++ part_leaves (x + 2 ^ k) y (2 ^ k) (2 * 2 ^ k) b
  node_leaves (horz_4 {k = k} a b c d) x y =
      part_leaves x y (4 * 2 ^ k) (2 ^ k) a ++ part_leaves x (y + 2 ^ k) (4 * 2 ^ k) (2 ^ k) b
      ++ part_leaves x (y + 2 * 2 ^ k) (4 * 2 ^ k) (2 ^ k) c
      ++ part_leaves x (y + 3 * 2 ^ k) (4 * 2 ^ k) (2 ^ k) d
  node_leaves (vert_4 {k = k} a b c d) x y =
      part_leaves x y (2 ^ k) (4 * 2 ^ k) a ++ part_leaves (x + 2 ^ k) y (2 ^ k) (4 * 2 ^ k) b
      ++ part_leaves (x + 2 * 2 ^ k) y (2 ^ k) (4 * 2 ^ k) c
      ++ part_leaves (x + 3 * 2 ^ k) y (2 ^ k) (4 * 2 ^ k) d
  node_leaves (split {k = k} a b c d) x y =
      kept x y (node_leaves a x y) ++ kept (x + 2 ^ k) y (node_leaves b (x + 2 ^ k) y)
      ++ kept x (y + 2 ^ k) (node_leaves c x (y + 2 ^ k))
      ++ kept (x + 2 ^ k) (y + 2 ^ k) (node_leaves d (x + 2 ^ k) (y + 2 ^ k))

  -- the leaves of the superblocks from this one on, in raster order
  abbrev pub superblock_leaves : List (Tree A 4) → (x y : ℕ) → List (Placed A)
  superblock_leaves [] x y = []
  superblock_leaves (t ∷ ts) x y =
      node_leaves t x y
      ++ (if nat_lt (x + 16) width then superblock_leaves ts (x + 16) y else superblock_leaves ts 0 (y + 16))

  abbrev pub frame_leaves : List (Tree A 4) → List (Placed A)
  frame_leaves trees = superblock_leaves trees 0 0
