-- The intra edge: the samples round a block that its prediction reads.
-- AV1 specification: intra prediction process, the preparation of the arrays AboveRow and LeftCol.
use Rattle.std.specs.Prelude.{ℕ, zero, suc, ◌+◌, ◌-◌, List, Bool, ◌&&◌, nat_lt, min, if◌then◌else◌, ℤ, slice_index}
use Rattle.std.specs.Prelude.{Option, None}
use Rattle.std.specs.Option.{unwrap_or}
use Rattle.av1_blocks.specs.declared.predict.PredictionMode.{PredictionMode}
use Rattle.av1_frame.specs.Areas.{VisibleArea}
use Rattle.av1_edges.specs.Edges.{Edge}
use Rattle.av1_edges.specs.Parts.{needs_left, needs_below_left, needs_above_right, needs_corner, smooths_corner}
use Rattle.av1_edges.specs.Sides.{base, where_needed, smoothed}
use Rattle.av1_lists.specs.Lists.{by_index}
use Rattle.av1_tile.specs.declared.extent.PlaneExtent.{PlaneExtent}
use Rattle.av1_tile.specs.Canvas.{Written}

-- ---- what is known

-- a sample that was written, else 0. A valid plan looks up only samples that were written
abbrev pub sample_of : Option ℕ → ℕ
sample_of o = unwrap_or o 0

-- the sample at column x of row y, if it lies within the extent and was written
abbrev pub known : PlaneExtent → Written → ℕ → ℕ → Option ℕ
known extent written x y = if nat_lt x extent.width && nat_lt y extent.height then written x y else None

-- the known sample to the left of column x, in row y; None in column 0
abbrev pub known_left : PlaneExtent → Written → ℕ → ℕ → Option ℕ
known_left extent written zero y = None
known_left extent written (suc x) y = known extent written x y

-- the known sample above row y, in column x; None in row 0
abbrev pub known_above : PlaneExtent → Written → ℕ → ℕ → Option ℕ
known_above extent written x zero = None
known_above extent written x (suc y) = known extent written x y

-- ---- edge filling

-- Place i of a side: the sample that is known there. If none is known, the first place holds `first`, and each other
-- place repeats the place before it.
abbrev pub place : (ℕ → Option ℕ) → ℕ → ℕ → ℕ
place sample first zero = unwrap_or (sample 0) first
place sample first (suc i) = unwrap_or (sample (suc i)) (place sample first i)

-- The value of the first place above a block at column x if no sample is known there. In a valid plan that happens only
-- in row 0. The value is the sample to the left of the block, or in column 0 half of the range less 1.
abbrev pub first_above : PlaneExtent → Written → ℕ → ℕ
first_above extent written zero = base extent.depth - 1
first_above extent written (suc x) = sample_of (written x 0)

-- The value of the first place to the left of a block at row y if no sample is known there. In a valid plan that
-- happens only in column 0. The value is the sample above the block, or in row 0 half of the range plus 1.
abbrev pub first_left : PlaneExtent → Written → ℕ → ℕ
first_left extent written zero = base extent.depth + 1
first_left extent written (suc y) = sample_of (written 0 y)

-- the corner of a block at column x of row y, if its mode reads the corner
abbrev pub corner_sample : PlaneExtent → Written → ℕ → ℕ → ℕ
corner_sample extent written zero zero = base extent.depth
corner_sample extent written (suc x) zero = sample_of (written x 0)
corner_sample extent written zero (suc y) = sample_of (written 0 y)
corner_sample extent written (suc x) (suc y) = sample_of (known extent written x y)

-- ---- the edge

-- the known samples above the block within its mode's reach: w, or w + min(w, h) if the mode needs samples above right
abbrev pub reach_above : PlaneExtent → Written → PredictionMode → ℤ → VisibleArea → ℕ → Option ℕ
reach_above extent written mode step a j =
    if nat_lt j (a.width + where_needed (needs_above_right mode step) (min a.width a.height))
    then known_above extent written (a.x + j) a.y else None

-- the known samples to the left within its mode's reach: h, or h + min(w, h) if the mode needs samples below left
abbrev pub reach_left : PlaneExtent → Written → PredictionMode → ℤ → VisibleArea → ℕ → Option ℕ
reach_left extent written mode step a i =
    if nat_lt i (a.height + where_needed (needs_below_left mode step) (min a.width a.height))
    then known_left extent written a.x (a.y + i) else None

-- the side above, from left to right: w places, or w + h if the mode needs samples above right. Only the first w +
-- min(w, h) look up a sample; the others repeat the last of these. The side to the left, from the top down, is alike
abbrev pub above_side : PlaneExtent → Written → PredictionMode → ℤ → VisibleArea → List ℕ
above_side extent written mode step a =
    by_index (a.width + where_needed (needs_above_right mode step) a.height)
    (place (reach_above extent written mode step a) (first_above extent written a.x))

abbrev pub left_side : PlaneExtent → Written → PredictionMode → ℤ → VisibleArea → List ℕ
left_side extent written mode step a =
    by_index (where_needed (needs_left mode a.x) a.height + where_needed (needs_below_left mode step) a.width)
    (place (reach_left extent written mode step a) (first_left extent written a.y))

-- the edge of the rectangle a, for the mode in effect there; `filter` says whether the edge filter is on
unfoldable pub edge : PlaneExtent → Bool → Written → PredictionMode → ℤ → VisibleArea → Edge
edge extent filter written mode step a =
    let above = above_side extent written mode step a in
    let left = left_side extent written mode step a in
    let corner = if needs_corner mode step then corner_sample extent written a.x a.y else base extent.depth in
    record {
      above = above;
      left = left;
      corner =
          if smooths_corner filter mode step a.width a.height
          then smoothed (slice_index left 0) corner (slice_index above 0) else corner;
    }
