-- The samples round a step that are written when its turn comes, in its plane.
-- AV1 specification: transform block syntax and clear block decoded flags function, which say to the intra prediction
-- process what lies above, above right, left and below left of a transform.
use Rattle.std.specs.Prelude.{◌≡◌, true, false, ℕ, Bool, ◌+◌, ◌-◌, ◌*◌, ◌/◌, ◌^◌, ◌<◌, ◌⊎◌, min, ◌||◌, List, [], ◌∷◌}
use Rattle.std.specs.Prelude.{take, length, get_or}
use Rattle.av1_plan.specs.CodingOrder.{superblock_count}
use Rattle.av1_plan.specs.Tree.{Tree}
use Rattle.av1_avail.specs.Order.{is_in}
use Rattle.av1_order.specs.Steps.{Coding, Step, area, IsFrame, steps_of}
use Rattle.av1_order.specs.Places.{told_before}

module _ (sx sy : ℕ) where
  -- the step's rectangle: its first column and row, and the number of its columns and rows
  abbrev pub left : Step → ℕ
  left s = 4 * ((area sx sy s.block).x + s.right)

  abbrev pub top : Step → ℕ
  top s = 4 * ((area sx sy s.block).y + s.down)

  abbrev pub width_of : Step → ℕ
  width_of s = 4 * s.columns

  abbrev pub height_of : Step → ℕ
  height_of s = 4 * s.rows

  -- one of the steps has the sample at column x of row y in its rectangle
  abbrev pub is_covered_sample : List Step → (x y : ℕ) → Bool
  is_covered_sample [] x y = false
  is_covered_sample (s ∷ ss) x y = is_in x y (left s) (top s) (width_of s) (height_of s) || is_covered_sample ss x y

  -- by position, the unit right of the step and one row above it is coded before the step
  abbrev pub above_right_told : Step → Bool
  above_right_told s =
      told_before sx sy s ((area sx sy s.block).x + s.right + s.columns) ((area sx sy s.block).y + s.down - 1)

  -- by position, the unit left of the step and one row below it is coded before the step
  abbrev pub below_left_told : Step → Bool
  below_left_told s =
      told_before sx sy s ((area sx sy s.block).x + s.right - 1) ((area sx sy s.block).y + s.down + s.rows)

  -- a frame of `width` by `height` cells
  module _ (width height : ℕ) where
    -- the sample lies in the visible plane
    pub record IsVisible (x y : ℕ) : Type 0 where
      pub column : x < 4 * (width / 2 ^ sx)
      pub row : y < 4 * (height / 2 ^ sy)

    -- What the steps before a step have written of the visible plane round it. The run above right of it and the run
    -- below left of it are as long as the step's lesser side. Each is written whole or not at all, as its position
    -- says. Everything above the step or left of it is written.
    pub record EdgesAreTold (before : List Step) (s : Step) : Type 0 where
      pub above_right : (i x y : ℕ) → i < min (width_of s) (height_of s) → x ≡ left s + width_of s + i → y + 1 ≡ top s →
          IsVisible x y
          → is_covered_sample before x y ≡ above_right_told s
      pub below_left : (i x y : ℕ) → i < min (width_of s) (height_of s) → x + 1 ≡ left s → y ≡ top s + height_of s + i →
          IsVisible x y
          → is_covered_sample before x y ≡ below_left_told s
      pub near : (x y : ℕ) → x < left s + width_of s → y < top s + height_of s → (x < left s) ⊎ (y < top s) →
          IsVisible x y → is_covered_sample before x y ≡ true

-- This holds for each step of each plane of each frame.
abbrev pub EdgesByPlaces : Type 0
EdgesByPlaces =
    (sx sy width height : ℕ) (trees : List (Tree Coding 4)) → IsFrame sx sy width height trees → (k : ℕ) (none : Step) →
    k < length (steps_of sx sy width height trees)
    → EdgesAreTold sx sy width height (take k (steps_of sx sy width height trees))
    (get_or (steps_of sx sy width height trees) k none)

-- After all steps of a frame that has all its superblocks, each sample of each visible plane is written.
abbrev pub PlanesAreWritten : Type 0
PlanesAreWritten =
    (sx sy width height : ℕ) (trees : List (Tree Coding 4)) → IsFrame sx sy width height trees →
    length trees ≡ superblock_count width height
    → (x y : ℕ) → IsVisible sx sy width height x y →
    is_covered_sample sx sy (steps_of sx sy width height trees) x y ≡ true
