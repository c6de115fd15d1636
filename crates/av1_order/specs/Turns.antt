-- What is written of a plane when the turn of a transform block of a plan comes, and what the availability calls return
-- then. Plane 0 is Y, 1 is U and 2 is V. AV1 specification: residual syntax and transform block syntax (haveAboveRt,
-- haveBelowLft).
use Rattle.std.specs.Prelude.{◌≡◌, true, false, ℕ, Bool, ◌+◌, ◌-◌, ◌*◌, ◌/◌, ◌%◌, ◌^◌, ◌<◌, ◌⊎◌, min, nat_lt, ◌&&◌}
use Rattle.std.specs.Prelude.{◌||◌, if◌then◌else◌, None, Option, Some, List, ◌∷◌, ◌++◌, map}
use Rattle.std.specs.List.{All, filter_map, range_with_len}
use Rattle.av1_blocks.specs.declared.transform.TxSize.{TxSize}
use Rattle.av1_blocks.specs.Transforms.{tx_width, tx_height}
use Rattle.av1_plan.specs.declared.geometry.TransformBlock.{TransformBlock}
use Rattle.av1_plan.specs.declared.header.Header.{Header}
use Rattle.av1_plan.specs.CodingOrder.{AreInCodingOrder, IsOnGrid, cells_of, placed}
use Rattle.av1_plan.specs.Geometry.{xdec, ydec, blocks_across, covers_plane, plane_area, plane_height}
use Rattle.av1_plan.specs.Geometry.{plane_tx_size, coded_width, coded_height}
use Rattle.av1_plan.specs.Geometry.{plane_width, transform_block}
use Rattle.av1_plan.specs.Plan.{LeafValue}
use Rattle.av1_plan.specs.Validity.{fault_of}
use Rattle.av1_avail.specs.Asked.{takes_above_right, takes_below_left}
use Rattle.av1_order.specs.Plans.{IsWholeFrame, coding_in, is_inter}
use Rattle.av1_order.specs.Samples.{is_covered_sample}
use Rattle.av1_order.specs.Steps.{Step, area, plane_steps, widened}

-- a plan in plane p: its leaves are valid and in coding order, each on its grid
pub record IsCodedPlan (h : Header) (p : ℕ) (leaves : List LeafValue) : Type 0 where
  pub frame : IsWholeFrame h
  pub grid : All (IsOnGrid h) leaves
  pub valid : All (λ l. fault_of h l ≡ None) leaves
  pub ordered : AreInCodingOrder h (coding_in h p) leaves

module _ (h : Header) (p : ℕ) where
  -- the steps of leaves in the plane
  abbrev pub leaves_steps : List LeafValue → List Step
  leaves_steps leaves =
      plane_steps (xdec h p) (ydec h p) (coded_width h / 4) (coded_height h / 4) (map (placed (coding_in h p)) leaves)

  -- these steps write the sample at column x of row y
  abbrev pub is_written : List Step → (x y : ℕ) → Bool
  is_written steps x y = is_covered_sample (xdec h p) (ydec h p) steps x y

  -- transform block n of a leaf as a step, if it begins in the coded plane
  abbrev pub numbered_step : LeafValue → ℕ → Option Step
  numbered_step l n =
      let b = widened (xdec h p) (ydec h p) (cells_of l) in
      let u = area (xdec h p) (ydec h p) b in
      let c = coding_in h p l in
      let right = n % (u.columns / c.columns) * c.columns in
      let down = n / (u.columns / c.columns) * c.rows in
      if nat_lt (u.x + right) (coded_width h / 4 / 2 ^ xdec h p)
      && nat_lt (u.y + down) (coded_height h / 4 / 2 ^ ydec h p)
      then Some (record { block = b; right = right; down = down; columns = c.columns; rows = c.rows }) else None

  -- the steps before block n of a leaf: those of the earlier leaves, and those of its blocks of lower numbers
  abbrev pub steps_before : (earlier : List LeafValue) → LeafValue → ℕ → List Step
  steps_before earlier l n = leaves_steps earlier ++ filter_map (numbered_step l) (range_with_len 0 n)

  -- whether the sample at x of the row above y is visible and written; then the sample at y of the column left of x
  abbrev pub is_written_above : List Step → (x y : ℕ) → Bool
  is_written_above steps x y = nat_lt 0 y && nat_lt x (plane_width h p) && nat_lt (y - 1) (plane_height h p)
      && is_written steps x (y - 1)

  abbrev pub is_written_left : List Step → (x y : ℕ) → Bool
  is_written_left steps x y = nat_lt 0 x && nat_lt y (plane_height h p) && nat_lt (x - 1) (plane_width h p)
      && is_written steps (x - 1) y

  -- a leaf's transform blocks in the plane
  module _ (l : LeafValue) where
    abbrev pub tx_in : TxSize
    tx_in = plane_tx_size h l.size l.tx_size p

    -- block n, if there is one and it begins in the coded plane
    abbrev pub leaf_block : ℕ → Option TransformBlock
    leaf_block n = transform_block h p (plane_area h l.x l.y l.size l.tx_size p) n

    -- the number of them side by side
    abbrev pub leaf_across : ℕ
    leaf_across = blocks_across (plane_area h l.x l.y l.size l.tx_size p)

    -- the answers for block n, which begins at b: above right, and below left
    abbrev pub answer_above_right : ℕ → TransformBlock → Bool
    answer_above_right n b =
        takes_above_right l.size (l.x / 4) (l.y / 4) tx_in (n % leaf_across) (n / leaf_across) (xdec h p)
        (ydec h p) b.x (plane_width h p)

    abbrev pub answer_below_left : ℕ → TransformBlock → Bool
    answer_below_left n b =
        takes_below_left l.size (l.x / 4) (l.y / 4) tx_in (n % leaf_across) (n / leaf_across) (xdec h p)
        (ydec h p) b.y (plane_height h p)

    -- Block n begins at b, and these steps come before it. The answer above right is whether the first sample there is
    -- visible and written. The run there is as long as the block's lesser side: if the answer is yes, all visible
    -- samples of it are written, and else none. The same holds below left. The visible samples above the block, to its
    -- left and at its corner are written.
    pub record EdgeIsAnswered (before : List Step) (n : ℕ) (b : TransformBlock) : Type 0 where
      pub above_right : answer_above_right n b ≡ is_written_above before (b.x + tx_width tx_in) b.y
      pub below_left : answer_below_left n b ≡ is_written_left before b.x (b.y + tx_height tx_in)
      pub run_above : (i : ℕ) → i < min (tx_width tx_in) (tx_height tx_in) → 0 < b.y →
          b.x + tx_width tx_in + i < plane_width h p
          → is_written before (b.x + tx_width tx_in + i) (b.y - 1) ≡ answer_above_right n b
      pub run_left : (i : ℕ) → i < min (tx_width tx_in) (tx_height tx_in) → 0 < b.x →
          b.y + tx_height tx_in + i < plane_height h p
          → is_written before (b.x - 1) (b.y + tx_height tx_in + i) ≡ answer_below_left n b
      pub near : (x y : ℕ) → x < b.x + tx_width tx_in → y < b.y + tx_height tx_in → (x < b.x) ⊎ (y < b.y) →
          x < plane_width h p → y < plane_height h p
          → is_written before x y ≡ true

    -- The samples at the side above, as far as a mode may reach. A sample is visible and written exactly if there is a
    -- row above, the sample lies in the frame, and it comes before the block's end or the answer is yes. The same holds
    -- for the left side. The corner is written if there is one.
    pub record SidesAreKnown (before : List Step) (n : ℕ) (b : TransformBlock) : Type 0 where
      pub above : (j : ℕ) → j < tx_width tx_in + min (tx_width tx_in) (tx_height tx_in)
          → is_written_above before (b.x + j) b.y ≡
          (nat_lt 0 b.y && nat_lt (b.x + j) (plane_width h p)
          && (nat_lt j (tx_width tx_in) || answer_above_right n b))
      pub left : (i : ℕ) → i < tx_height tx_in + min (tx_width tx_in) (tx_height tx_in)
          → is_written_left before b.x (b.y + i) ≡
          (nat_lt 0 b.x && nat_lt (b.y + i) (plane_height h p)
          && (nat_lt i (tx_height tx_in) || answer_below_left n b))
      pub corner : 0 < b.x → 0 < b.y → is_written before (b.x - 1) (b.y - 1) ≡ true

-- This holds for each transform block, in each plane, of each intra leaf of a plan, whatever the other leaves are.
abbrev pub EdgesAreAnswered : Type 0
EdgesAreAnswered =
    (h : Header) (p : ℕ) (earlier : List LeafValue) (l : LeafValue) (later : List LeafValue) →
    IsCodedPlan h p (earlier ++ l ∷ later)
    → is_inter l.kind ≡ false → covers_plane h l.x l.y l.size p ≡ true → (n : ℕ) (b : TransformBlock) →
    leaf_block h p l n ≡ Some b
    → EdgeIsAnswered h p l (steps_before h p earlier l n) n b

-- So each sample at its sides is written exactly if the answers say so.
abbrev pub SidesAreAnswered : Type 0
SidesAreAnswered =
    (h : Header) (p : ℕ) (earlier : List LeafValue) (l : LeafValue) (later : List LeafValue) →
    IsCodedPlan h p (earlier ++ l ∷ later)
    → is_inter l.kind ≡ false → covers_plane h l.x l.y l.size p ≡ true → (n : ℕ) (b : TransformBlock) →
    leaf_block h p l n ≡ Some b
    → SidesAreKnown h p l (steps_before h p earlier l n) n b

-- In the end each visible sample of each plane of a plan is written.
abbrev pub PlansAreWritten : Type 0
PlansAreWritten =
    (h : Header) (p : ℕ) (leaves : List LeafValue) → IsCodedPlan h p leaves → (x y : ℕ) → x < plane_width h p →
    y < plane_height h p
    → is_written h p (leaves_steps h p leaves) x y ≡ true
