-- The edge round a transform's samples, as it is read from a region by position.
-- AV1 specification: intra prediction process: general; transform block syntax (haveAboveRt, haveBelowLft).
use Rattle.std.specs.Prelude.{ℕ, ◌+◌, ◌-◌, ◌*◌, ◌^◌, ◌<◌, ◌≤◌, List, Bool, ◌&&◌, min, if◌then◌else◌, map, slice_index}
use Rattle.std.specs.Prelude.{Option, unsigned_abs}
use Rattle.av1_blocks.specs.declared.predict.PredictionMode.{PredictionMode}
use Rattle.av1_blocks.specs.declared.predict.IntraParam.{IntraParam}
use Rattle.av1_blocks.specs.declared.partition.BlockSize.{BlockSize}
use Rattle.av1_blocks.specs.declared.transform.TxSize.{TxSize}
use Rattle.av1_blocks.specs.Transforms.{tx_width, tx_height}
use Rattle.av1_frame.specs.declared.plane.PlaneOffset.{PlaneOffset}
use Rattle.av1_frame.specs.declared.block_unit.TileBlockOffset.{TileBlockOffset}
use Rattle.av1_frame.specs.declared.plane_region.PlaneRegion.{PlaneRegion}
use Rattle.av1_frame.specs.Samples.{row_start}
use Rattle.av1_frame.specs.Regions.{IsReadable}
use Rattle.av1_avail.specs.Asked.{takes_above_right, takes_below_left}
use Rattle.av1_avail.specs.Cells.{transform_columns, transform_rows}
use Rattle.av1_edges.specs.declared.parts.Parts.{Parts}
use Rattle.av1_edges.specs.declared.position.TransformPosition.{TransformPosition}
use Rattle.av1_edges.specs.Parts.{prepared_parts, step_of}
use Rattle.av1_edges.specs.Sides.{base, where_needed, num_avail, above_at, left_at, corner_at, smoothed}
use Rattle.av1_lists.specs.Lists.{by_index}

-- ---- the region

-- the number of the sample at column x of row y of the region, counted from its first
abbrev pub region_sample : {T : Type 0} → (T → ℕ) → PlaneRegion T → ℕ → ℕ → ℕ
region_sample num r x y = slice_index (map num r.samples.now) (row_start r.plane_cfg.stride r.area y + x)

-- the number of its columns, and then of its rows, that lie in the visible plane
abbrev pub visible_columns : {T : Type 0} → PlaneRegion T → ℕ
visible_columns r = min r.area.width (r.plane_cfg.xorigin + r.plane_cfg.width - r.area.x)

abbrev pub visible_rows : {T : Type 0} → PlaneRegion T → ℕ
visible_rows r = min r.area.height (r.plane_cfg.yorigin + r.plane_cfg.height - r.area.y)

-- the region lies in storage and begins in the visible plane
pub record BeginsVisible {T : Type 0} (r : PlaneRegion T) : Type 0 where
  pub readable : IsReadable r
  pub left : r.plane_cfg.xorigin ≤ r.area.x
  pub top : r.plane_cfg.yorigin ≤ r.area.y
  pub right : r.area.x < r.plane_cfg.xorigin + r.plane_cfg.width
  pub bottom : r.area.y < r.plane_cfg.yorigin + r.plane_cfg.height

-- the transform's first sample lies in that part, and its units in the block are few
pub record PositionFits {T : Type 0} (r : PlaneRegion T) (at : TransformPosition) : Type 0 where
  pub column : at.x < visible_columns r
  pub row : at.y < visible_rows r
  pub few_columns : at.bx * transform_columns at.tx_size < 2 ^ 16
  pub few_rows : at.by * transform_rows at.tx_size < 2 ^ 16

-- the position of a transform of a block, whose first sample is at po
abbrev pub position_of : TileBlockOffset → (bx by : ℕ) → BlockSize → PlaneOffset → TxSize → TransformPosition
position_of partition_bo bx by partition_size po tx_size = record {
  x = unsigned_abs po.x;
  y = unsigned_abs po.y;
  tx_size = tx_size;
  partition_bo = partition_bo;
  partition_size = partition_size;
  bx = bx;
  by = by;
}

-- ---- what is coded before the transform

-- the samples above right of it are available
abbrev pub has_above_right : {T : Type 0} → PlaneRegion T → TransformPosition → Bool
has_above_right r at =
    let cfg = r.plane_cfg in
    takes_above_right at.partition_size at.partition_bo.0.x at.partition_bo.0.y at.tx_size at.bx at.by cfg.xdec cfg.ydec
    at.x (visible_columns r)

-- the samples below left of it are available
abbrev pub has_below_left : {T : Type 0} → PlaneRegion T → TransformPosition → Bool
has_below_left r at =
    let cfg = r.plane_cfg in
    takes_below_left at.partition_size at.partition_bo.0.x at.partition_bo.0.y at.tx_size at.bx at.by cfg.xdec cfg.ydec
    at.y (visible_rows r)

-- ---- the edge

-- the samples round a transform: above it from left to right, to its left from the top down, and the one above and left
-- of it
pub record Edge : Type 0 where
  pub above : List ℕ
  pub left : List ℕ
  pub corner : ℕ

-- the number of available samples above it, and then to its left: past the transform at most as many as its lesser side
abbrev pub num_avail_above : {T : Type 0} → PlaneRegion T → TransformPosition → Bool → ℕ
num_avail_above r at goes_on =
    num_avail (visible_columns r) at.x (tx_width at.tx_size) goes_on (min (tx_width at.tx_size) (tx_height at.tx_size))

abbrev pub num_avail_left : {T : Type 0} → PlaneRegion T → TransformPosition → Bool → ℕ
num_avail_left r at goes_on =
    num_avail (visible_rows r) at.y (tx_height at.tx_size) goes_on (min (tx_width at.tx_size) (tx_height at.tx_size))

-- the number of places of the side above: the transform's width, and its height in addition if the samples above right
-- are needed
abbrev pub above_places : Parts → TxSize → ℕ
above_places parts tx_size = tx_width tx_size + where_needed parts.above_right (tx_height tx_size)

-- the number of places of the left side: the transform's height if the left side is prepared, and its width in addition
-- if the samples below left are needed
abbrev pub left_places : Parts → TxSize → ℕ
left_places parts tx_size =
    where_needed parts.left (tx_height tx_size) + where_needed parts.below_left (tx_width tx_size)

-- the edge whose parts `parts` are prepared
unfoldable pub edge_of_parts : {T : Type 0} → (T → ℕ) → PlaneRegion T → TransformPosition → (depth : ℕ) → Parts → Edge
edge_of_parts num r at depth parts =
    let sample = region_sample num r in
    let above =
    above_at sample (base depth) at.x at.y (num_avail_above r at (parts.above_right && has_above_right r at)) in
    let left = left_at sample (base depth) at.x at.y (num_avail_left r at (parts.below_left && has_below_left r at)) in
    let corner = if parts.corner then corner_at sample (base depth) at.x at.y else base depth in
    record {
      above = by_index (above_places parts at.tx_size) above;
      left = by_index (left_places parts at.tx_size) left;
      corner = if parts.smoothed then smoothed (left 0) corner (above 0) else corner;
    }

-- the edge of a mode, if one is named
abbrev pub prepared_edge : {T : Type 0} → (T → ℕ) → PlaneRegion T → TransformPosition → (depth : ℕ) →
    Option PredictionMode → (filter : Bool) → IntraParam → Edge
prepared_edge num r at depth mode filter param =
    edge_of_parts num r at depth (prepared_parts filter mode (step_of param) at.x at.y (tx_width at.tx_size)
    (tx_height at.tx_size))
