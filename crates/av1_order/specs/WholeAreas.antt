-- Inter leaves: their whole area is predicted at once, before any residual is added to it.
-- AV1 specification: compute prediction syntax; residual syntax.
use Rattle.std.specs.Prelude.{◌≡◌, true, false, ℕ, None, Some, [], ◌∷◌}
use Rattle.av1_blocks.specs.Blocks.{block_width, block_height}
use Rattle.av1_blocks.specs.Transforms.{tx_width, tx_height}
use Rattle.av1_plan.specs.declared.geometry.TransformBlock.{TransformBlock}
use Rattle.av1_plan.specs.declared.header.Header.{Header}
use Rattle.av1_plan.specs.CodingOrder.{IsOnGrid, cells_of}
use Rattle.av1_plan.specs.Geometry.{xdec, ydec, covers_plane, plane_area}
use Rattle.av1_plan.specs.Plan.{LeafValue}
use Rattle.av1_plan.specs.Validity.{fault_of}
use Rattle.av1_avail.specs.Order.{is_in}
use Rattle.av1_order.specs.Plans.{IsWholeFrame, is_inter, steps_in}
use Rattle.av1_order.specs.Samples.{left, top, width_of, height_of}
use Rattle.av1_order.specs.Steps.{Step, area, widened}
use Rattle.av1_order.specs.Turns.{is_written, leaf_block, tx_in}

module _ (h : Header) (p : ℕ) (l : LeafValue) where
  -- the prediction of all of a leaf's area, as one step
  abbrev pub whole_step : Step
  whole_step =
      let b = widened (xdec h p) (ydec h p) (cells_of l) in
      let u = area (xdec h p) (ydec h p) b in
      record { block = b; right = 0; down = 0; columns = u.columns; rows = u.rows }

  -- the leaf has this one step in the plane, whose rectangle is the leaf's area
  pub record IsPredictedWhole : Type 0 where
    pub one : steps_in h p l ≡ whole_step ∷ []
    pub x : left (xdec h p) (ydec h p) whole_step ≡ (plane_area h l.x l.y l.size l.tx_size p).x
    pub y : top (xdec h p) (ydec h p) whole_step ≡ (plane_area h l.x l.y l.size l.tx_size p).y
    pub columns : width_of (xdec h p) (ydec h p) whole_step ≡ block_width (plane_area h l.x l.y l.size l.tx_size p).size
    pub rows : height_of (xdec h p) (ydec h p) whole_step ≡ block_height (plane_area h l.x l.y l.size l.tx_size p).size

  -- each sample of each transform block that begins in the visible plane is written by the leaf's steps, so a residual
  -- may be added to it
  abbrev pub BlocksAreWritten : Type 0
  BlocksAreWritten =
      covers_plane h l.x l.y l.size p ≡ true → (n : ℕ) (b : TransformBlock) → leaf_block h p l n ≡ Some b
      → (x y : ℕ) → is_in x y b.x b.y (tx_width (tx_in h p l)) (tx_height (tx_in h p l)) ≡ true →
      is_written h p (steps_in h p l) x y ≡ true

-- This holds for each valid inter leaf that covers a part of the plane; any other inter leaf has no steps there.
abbrev pub InterIsWhole : Type 0
InterIsWhole = (h : Header) (p : ℕ) (l : LeafValue) → IsOnGrid h l → fault_of h l ≡ None → is_inter l.kind ≡ true →
    (covers_plane h l.x l.y l.size p ≡ true → IsPredictedWhole h p l)
    × (covers_plane h l.x l.y l.size p ≡ false → steps_in h p l ≡ [])

-- The blocks of each valid leaf, inter or intra, are written.
abbrev pub ResiduesFindSamples : Type 0
ResiduesFindSamples = (h : Header) (p : ℕ) (l : LeafValue) → IsWholeFrame h → IsOnGrid h l → fault_of h l ≡ None →
    BlocksAreWritten h p l
