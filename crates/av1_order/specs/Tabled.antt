-- The answers of the tables at a step of a plane, if the list of all steps is cut at the step.
-- AV1 specification: transform block syntax and clear block decoded flags function.
use Rattle.std.specs.Prelude.{◌≡◌, true, ℕ, ◌+◌, ◌-◌, ◌*◌, ◌/◌, ◌%◌, ◌^◌, ◌<◌, min, nat_lt, ◌&&◌, List, ◌∷◌, ◌++◌}
use Rattle.av1_blocks.specs.declared.partition.BlockSize.{BlockSize}
use Rattle.av1_blocks.specs.declared.transform.TxSize.{TxSize}
use Rattle.av1_plan.specs.Tree.{Tree}
use Rattle.av1_avail.specs.Asked.{has_before}
use Rattle.av1_avail.specs.Availability.{table_top_right, table_bottom_left}
use Rattle.av1_avail.specs.Cells.{transform_columns, transform_rows}
use Rattle.av1_avail.specs.Order.{is_in}
use Rattle.av1_order.specs.Asked.{HasSizes, above_before, beside_before}
use Rattle.av1_order.specs.Samples.{EdgesAreTold, IsVisible, left, top, width_of, height_of, is_covered_sample}
use Rattle.av1_order.specs.Steps.{Coding, IsFrame, Step, steps_of}

module _ (sx sy width height : ℕ) where
  -- The step's block has the size b, and the step the size t. If the leaf's cell is named, and the frame's ends by
  -- position, the tables say whether the sample just past the step is visible and written. If any cell of the block is
  -- named, they say whether each visible sample of the run past it is written. The run is as long as the step's lesser
  -- side.
  pub record IsTabled (before : List Step) (s : Step) (b : BlockSize) (t : TxSize) : Type 0 where
    pub top_right : (cx cy : ℕ) → cx - cx % 2 ^ sx ≡ s.block.x → cy - cy % 2 ^ sy ≡ s.block.y
        → (has_before s.down cy sy && nat_lt (left sx sy s + width_of sx sy s) (4 * (width / 2 ^ sx))
        && table_top_right b cx cy (transform_columns t) s.down s.right sx)
        ≡ above_before sx sy width height before (left sx sy s + width_of sx sy s) (top sx sy s)
    pub bottom_left : (cx cy : ℕ) → cx - cx % 2 ^ sx ≡ s.block.x → cy - cy % 2 ^ sy ≡ s.block.y
        → (has_before s.right cx sx && nat_lt (top sx sy s + height_of sx sy s) (4 * (height / 2 ^ sy))
        && table_bottom_left b cx cy (transform_rows t) s.down s.right sx sy)
        ≡ beside_before sx sy width height before (left sx sy s) (top sx sy s + height_of sx sy s)
    pub above_right : (cx cy i x y : ℕ) → is_in cx cy s.block.x s.block.y s.block.columns s.block.rows ≡ true →
        i < min (width_of sx sy s) (height_of sx sy s)
        → x ≡ left sx sy s + width_of sx sy s + i → y + 1 ≡ top sx sy s → IsVisible sx sy width height x y
        → is_covered_sample sx sy before x y ≡ table_top_right b cx cy (transform_columns t) s.down s.right sx
    pub below_left : (cx cy i x y : ℕ) → is_in cx cy s.block.x s.block.y s.block.columns s.block.rows ≡ true →
        i < min (width_of sx sy s) (height_of sx sy s)
        → x + 1 ≡ left sx sy s → y ≡ top sx sy s + height_of sx sy s + i → IsVisible sx sy width height x y
        → is_covered_sample sx sy before x y ≡ table_bottom_left b cx cy (transform_rows t) s.down s.right sx sy

  -- what is written round a step at which the steps are cut, and what the tables say there
  pub record IsToldAtCut (before : List Step) (s : Step) : Type 0 where
    pub edges : EdgesAreTold sx sy width height before s
    pub tables : (b : BlockSize) (t : TxSize) → HasSizes s b t → IsTabled before s b t

-- This holds wherever the steps of a plane of a frame are cut at one of them.
abbrev pub CutsAreTold : Type 0
CutsAreTold =
    (sx sy width height : ℕ) (trees : List (Tree Coding 4)) → IsFrame sx sy width height trees →
    (before : List Step) (s : Step) (after : List Step)
    → steps_of sx sy width height trees ≡ before ++ s ∷ after → IsToldAtCut sx sy width height before s
