-- The steps of a plane: the rectangles that are predicted at once, one after the other. Positions and sides in a plane
-- are counted in units of 4x4 of its samples. sx and sy are 1 if the plane is halved in that direction, else 0. AV1
-- specification: residual syntax and transform block syntax, which go over the transform blocks of a block in each
-- plane.
use Rattle.std.specs.Prelude.{◌≡◌, true, ℕ, zero, suc, Bool, ◌+◌, ◌-◌, ◌/◌, ◌%◌, ◌^◌, ◌<◌, ◌≤◌, max, ◌==◌, not, nat_lt}
use Rattle.std.specs.Prelude.{◌&&◌, if◌then◌else◌, List, [], ◌∷◌, ◌++◌}
use Rattle.std.specs.List.{All}
use Rattle.av1_plan.specs.Tree.{Block, Placed, Tree, frame_leaves}

-- How a leaf is coded in a plane: as one rectangle if it is inter, else by transforms of `columns` by `rows` units.
pub record Coding : Type 0 where
  pub is_inter : Bool
  pub columns : ℕ
  pub rows : ℕ

-- A rectangle that is predicted at once: `columns` by `rows` units, from the unit that is `right` units right of the
-- first unit of its block and `down` units below it. The block is counted in cells.
pub record Step : Type 0 where
  pub block : Block
  pub right : ℕ
  pub down : ℕ
  pub columns : ℕ
  pub rows : ℕ

module _ (sx sy : ℕ) where
  -- In a halved direction a leaf of one cell at an even position carries no samples of the plane. The leaf after it
  -- carries them for both.
  abbrev pub carries : Block → Bool
  carries b = not (sx == 1 && b.columns == 1 && b.x % 2 == 0) && not (sy == 1 && b.rows == 1 && b.y % 2 == 0)

  -- the cells whose units the leaf carries: its own, widened to whole units
  abbrev pub widened : Block → Block
  widened b = record {
    x = b.x - b.x % 2 ^ sx;
    y = b.y - b.y % 2 ^ sy;
    columns = max b.columns (2 ^ sx);
    rows = max b.rows (2 ^ sy);
  }

  -- a block of whole units, counted in units
  abbrev pub area : Block → Block
  area b = record { x = b.x / 2 ^ sx; y = b.y / 2 ^ sy; columns = b.columns / 2 ^ sx; rows = b.rows / 2 ^ sy }

  -- the transforms of the coding tile the units of the leaf
  pub record IsTiled (l : Placed Coding) : Type 0 where
    pub wide : 0 < l.content.columns
    pub high : 0 < l.content.rows
    pub across : (area (widened l.block)).columns % l.content.columns ≡ 0
    pub along : (area (widened l.block)).rows % l.content.rows ≡ 0

  -- in each leaf that carries samples of the plane, the transforms do
  abbrev pub AreTiled : List (Placed Coding) → Type 0
  AreTiled leaves = All (λ l. carries l.block ≡ true → IsTiled l) leaves

  -- a frame of `width` by `height` cells
  module _ (width height : ℕ) where
    -- n transforms of one row of the block, as far as they begin in the visible plane
    abbrev pub row_steps : Block → Coding → (down right n : ℕ) → List Step
    row_steps b c down right zero = []
    row_steps b c down right (suc n) =
        (if nat_lt ((area b).x + right) (width / 2 ^ sx) && nat_lt ((area b).y + down) (height / 2 ^ sy)
        then record { block = b; right = right; down = down; columns = c.columns; rows = c.rows } ∷ [] else [])
        ++ row_steps b c down (right + c.columns) n

    -- n of these rows
    abbrev pub block_steps : Block → Coding → (down n : ℕ) → List Step
    block_steps b c down zero = []
    block_steps b c down (suc n) = row_steps b c down 0 ((area b).columns / c.columns)
        ++ block_steps b c (down + c.rows) n

    -- the steps of a leaf
    abbrev pub leaf_steps : Placed Coding → List Step
    leaf_steps l =
        let b = widened l.block in
        if carries l.block
        then
        (if l.content.is_inter then record {
          block = b;
          right = 0;
          down = 0;
          columns = (area b).columns;
          rows = (area b).rows;
        } ∷ []
        else block_steps b l.content 0 ((area b).rows / l.content.rows))
        else []

    -- the steps of all leaves
    abbrev pub plane_steps : List (Placed Coding) → List Step
    plane_steps [] = []
    plane_steps (l ∷ ls) = leaf_steps l ++ plane_steps ls

-- the steps of a plane of a frame
abbrev pub steps_of : (sx sy width height : ℕ) → List (Tree Coding 4) → List Step
steps_of sx sy width height trees = plane_steps sx sy width height (frame_leaves width height trees)

-- A plane of a frame. It is halved in its rows only if it is also halved in its columns. The sides of the frame are
-- whole units, and transforms tile the leaves.
pub record IsFrame (sx sy width height : ℕ) (trees : List (Tree Coding 4)) : Type 0 where
  pub halved_x : sx ≤ 1
  pub halved_y : sy ≤ sx
  pub some_width : 0 < width
  pub even_width : width % 2 ≡ 0
  pub even_height : height % 2 ≡ 0
  pub tiled : AreTiled sx sy (frame_leaves width height trees)
