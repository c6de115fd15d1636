-- The questions to the availability calls: what is written above right of a transform, and below left of it.
-- AV1 specification: transform block syntax and clear block decoded flags function.
use Rattle.std.specs.Prelude.{◌≡◌, true, ℕ, Bool, ◌+◌, ◌-◌, ◌*◌, ◌/◌, ◌%◌, ◌^◌, ◌<◌, nat_lt, ◌&&◌, ◌||◌, List, take}
use Rattle.std.specs.Prelude.{length, get_or}
use Rattle.av1_blocks.specs.declared.partition.BlockSize.{BlockSize}
use Rattle.av1_blocks.specs.declared.transform.TxSize.{TxSize}
use Rattle.av1_plan.specs.Tree.{Tree}
use Rattle.av1_avail.specs.Agreement.{IsTile, top_right_before, bottom_left_before}
use Rattle.av1_avail.specs.Cells.{block_columns, block_rows, transform_columns, transform_rows}
use Rattle.av1_avail.specs.Order.{is_in}
use Rattle.av1_order.specs.Steps.{Coding, Step, IsFrame, steps_of}
use Rattle.av1_order.specs.Samples.{left, top, width_of, height_of, is_covered_sample, IsVisible}

-- the sizes of a step's block and of the step itself
pub record HasSizes (s : Step) (b : BlockSize) (t : TxSize) : Type 0 where
  pub columns : s.block.columns ≡ block_columns b
  pub rows : s.block.rows ≡ block_rows b
  pub wide : s.columns ≡ transform_columns t
  pub high : s.rows ≡ transform_rows t

module _ (sx sy width height : ℕ) where
  -- The step is one of the equal transforms of its block. The calls may name any cell of the block. What the steps
  -- before it have written of the visible plane then answers for the units above right of it and below left of it.
  pub record IsAsked (before : List Step) (s : Step) (b : BlockSize) (t : TxSize) : Type 0 where
    pub tile : IsTile b t s.down s.right sx sy
    pub above_right : (cx cy i x y : ℕ) → is_in cx cy s.block.x s.block.y s.block.columns s.block.rows ≡ true
        → x ≡ left sx sy s + width_of sx sy s + i → y + 1 ≡ top sx sy s → IsVisible sx sy width height x y
        → is_covered_sample sx sy before x y ≡ top_right_before b cx cy t s.down s.right sx sy (i / 4)
    pub below_left : (cx cy i x y : ℕ) → is_in cx cy s.block.x s.block.y s.block.columns s.block.rows ≡ true
        → x + 1 ≡ left sx sy s → y ≡ top sx sy s + height_of sx sy s + i → IsVisible sx sy width height x y
        → is_covered_sample sx sy before x y ≡ bottom_left_before b cx cy t s.down s.right sx sy (i / 4)

  -- the sample at x of the row above y is visible and in one of the steps
  abbrev pub above_before : List Step → (x y : ℕ) → Bool
  above_before before x y = nat_lt 0 y && nat_lt x (4 * (width / 2 ^ sx)) && nat_lt (y - 1) (4 * (height / 2 ^ sy))
      && is_covered_sample sx sy before x (y - 1)

  -- the sample at y of the column left of x is visible and in one of the steps
  abbrev pub beside_before : List Step → (x y : ℕ) → Bool
  beside_before before x y = nat_lt 0 x && nat_lt y (4 * (height / 2 ^ sy)) && nat_lt (x - 1) (4 * (width / 2 ^ sx))
      && is_covered_sample sx sy before (x - 1) y

  -- whether there are samples above a transform (or left of it): it isn't in the block's first row, or the leaf isn't
  -- in the first row of the plane's units
  abbrev pub have : (s offset cell : ℕ) → Bool
  have s offset cell = nat_lt 0 offset || nat_lt s cell

  -- If the calls name the leaf's cell, and the frame's ends by position, the answer is whether the sample is visible
  -- and written.
  pub record IsAnswered (before : List Step) (s : Step) (b : BlockSize) (t : TxSize) : Type 0 where
    pub top_right : (cx cy : ℕ) → cx - cx % 2 ^ sx ≡ s.block.x → cy - cy % 2 ^ sy ≡ s.block.y
        → (have sy s.down cy && nat_lt (left sx sy s + width_of sx sy s) (4 * (width / 2 ^ sx))
        && top_right_before b cx cy t s.down s.right sx sy 0)
        ≡ above_before before (left sx sy s + width_of sx sy s) (top sx sy s)
    pub bottom_left : (cx cy : ℕ) → cx - cx % 2 ^ sx ≡ s.block.x → cy - cy % 2 ^ sy ≡ s.block.y
        → (have sx s.right cx && nat_lt (top sx sy s + height_of sx sy s) (4 * (height / 2 ^ sy))
        && bottom_left_before b cx cy t s.down s.right sx sy 0)
        ≡ beside_before before (left sx sy s) (top sx sy s + height_of sx sy s)

-- This holds for each step of each plane of each frame: the answer for each unit.
abbrev pub EdgesAsAsked : Type 0
EdgesAsAsked =
    (sx sy width height : ℕ) (trees : List (Tree Coding 4)) → IsFrame sx sy width height trees → (k : ℕ) (none : Step) →
    k < length (steps_of sx sy width height trees)
    → (b : BlockSize) (t : TxSize) → HasSizes (get_or (steps_of sx sy width height trees) k none) b t
    → IsAsked sx sy width height (take k (steps_of sx sy width height trees))
    (get_or (steps_of sx sy width height trees) k none) b t

-- This holds for each step of each plane of each frame: the answer for the first sample.
abbrev pub CallsAnswerOrder : Type 0
CallsAnswerOrder =
    (sx sy width height : ℕ) (trees : List (Tree Coding 4)) → IsFrame sx sy width height trees → (k : ℕ) (none : Step) →
    k < length (steps_of sx sy width height trees)
    → (b : BlockSize) (t : TxSize) → HasSizes (get_or (steps_of sx sy width height trees) k none) b t
    → IsAnswered sx sy width height (take k (steps_of sx sy width height trees))
    (get_or (steps_of sx sy width height trees) k none) b t
