-- A block in the first rows and columns of a region, and the samples next to it.
use Rattle.std.specs.Prelude.{ℕ, ◌+◌, ◌-◌, ◌≤◌, List, length, map, slice_index, Option}
use Rattle.std.specs.Option.{option_map}
use Rattle.av1_blocks.specs.declared.predict.PredictionMode.{PredictionMode}
use Rattle.av1_frame.specs.Regions.{InStorage, stored}
use Rattle.av1_frame.specs.Samples.{row_of}
use Rattle.av1_frame.specs.declared.plane_region.PlaneRegionMut.{PlaneRegionMut}
use Rattle.av1_frame.specs.declared.tile_state.TileRect.{TileRect}
use Rattle.av1_edges.specs.declared.edge.IntraEdge.{IntraEdge}
use Rattle.av1_edges.specs.Edges.{Edge}
use Rattle.av1_edges.specs.Parts.{effective}
use Rattle.av1_intra.specs.Neighbours.{uses_smooth_filter}
use Rattle.av1_intra.specs.Predicted.{edge_round, variant_at}
use Rattle.av1_intra.specs.Sides.{numbers}
use Rattle.av1_intra.specs.declared.directional.DirectionalBlock.{DirectionalBlock}
use Rattle.av1_intra.specs.declared.neighbours.IntraEdgeFilterParameters.{IntraEdgeFilterParameters}
use Rattle.av1_intra.specs.declared.variant.PredictionVariant.{PredictionVariant}

-- the region lies in its storage, and a block of w columns and h rows in its first columns and rows
pub record HoldsBlock {T : Type 0} (r : PlaneRegionMut T) (w h : ℕ) : Type 0 where
  pub fits : InStorage r
  pub columns : w ≤ r.area.width
  pub rows : h ≤ r.area.height

-- there is a sample above each column of it, and a sample to the left of each row
pub record AreBeside {T : Type 0} (w h : ℕ) (above left : List T) : Type 0 where
  pub above_long : w ≤ length above
  pub left_long : h ≤ length left

-- the block of w columns and h rows at the first sample of the region r, along the angle p; its sides are filtered if
-- there are parameters
abbrev pub block_at : {T : Type 0} → PlaneRegionMut T → ℕ → ℕ → ℕ → ℕ → Option IntraEdgeFilterParameters →
    DirectionalBlock
block_at r p w h depth parameters = record {
  p_angle = p;
  width = w;
  height = h;
  bit_depth = depth;
  smooth_filter = option_map uses_smooth_filter parameters;
  visible_columns = r.plane_cfg.xorigin + r.plane_cfg.width - r.area.x;
  visible_rows = r.plane_cfg.yorigin + r.plane_cfg.height - r.area.y;
}

-- the number of the first sample of the region r
abbrev pub first_sample : {T : Type 0} → (T → ℕ) → PlaneRegionMut T → ℕ
first_sample num r = slice_index (map num (row_of r.plane_cfg.stride r.area 0 (stored r))) 0

-- the edge that an `IntraEdge` holds
abbrev pub edge_of : {T : Type 0} → (T → ℕ) → IntraEdge T → Edge
edge_of num e = edge_round num e.left.now (numbers num e.top_left.now 0) e.above.now

-- the column and the row of the tile at which a region begins
abbrev pub column_in : {T : Type 0} → PlaneRegionMut T → TileRect → ℕ
column_in r tile = r.area.x - r.plane_cfg.xorigin - tile.x

abbrev pub row_in : {T : Type 0} → PlaneRegionMut T → TileRect → ℕ
row_in r tile = r.area.y - r.plane_cfg.yorigin - tile.y

-- the mode by which a block there is predicted, and its sides that lie in the tile
abbrev pub mode_of_block : {T : Type 0} → PlaneRegionMut T → TileRect → PredictionMode → PredictionMode
mode_of_block r tile mode = effective mode (column_in r tile) (row_in r tile)

abbrev pub variant_of_block : {T : Type 0} → PlaneRegionMut T → TileRect → PredictionVariant
variant_of_block r tile = variant_at (column_in r tile) (row_in r tile)
