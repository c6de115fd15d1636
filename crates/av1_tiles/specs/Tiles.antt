-- The plan of each tile: the tile's dimensions, its rectangle of each reference plane, and the leaves that its part
-- spells. And what the leaves are predicted from.
use Rattle.std.specs.Prelude.{ℕ, ◌+◌, ◌*◌, ◌-◌, ◌/◌, ◌%◌, ◌^◌, ◌≤◌, List, [], ◌∷◌, length, take, drop, map, Option}
use Rattle.std.specs.Prelude.{option_map, slice_index, slice_index_or, if◌then◌else◌}
use Rattle.std.specs.List.{flat_map, range_with_len}
use Rattle.av1_frame.specs.Areas.{VisibleArea}
use Rattle.av1_plan.specs.declared.header.Header.{Header}
use Rattle.av1_tile.specs.declared.motion.Motion.{Motion}
use Rattle.av1_plan.specs.Format.{Format}
use Rattle.av1_plan.specs.Geometry.{follows_av1, xdec, ydec, shown_columns, shown_rows}
use Rattle.av1_plan.specs.Grammar.{plan_behind}
use Rattle.av1_plan.specs.Plan.{PlanValue}
use Rattle.av1_plan.specs.ReadPlans.{IsReadFrame}
use Rattle.av1_tile.specs.Motion.{frame_with, shifted, plan_motion}
use Rattle.av1_tile.specs.Canvas.{Canvas}
use Rattle.av1_tile.specs.Reference.{Scene, walk_of}
use Rattle.av1_tiles.specs.declared.area.TileArea.{TileArea}
use Rattle.av1_tiles.specs.Grammar.{FrontValue, FileValue}

-- how many tiles are in a row of tiles
abbrev pub across : FrontValue → ℕ
across f = length f.columns - 1

-- the rectangle from column k and row r of the bounds to the next bounds
abbrev pub area_between : (columns rows : List ℕ) → (k r : ℕ) → TileArea
area_between columns rows k r = record {
  x = slice_index columns k;
  y = slice_index rows r;
  width = slice_index columns (k + 1) - slice_index columns k;
  height = slice_index rows (r + 1) - slice_index rows r;
}

-- the rectangle of tile i in the frame; tiles are counted in raster order
unfoldable pub tile_area : FrontValue → ℕ → TileArea
tile_area f i = area_between f.columns f.rows (i % across f) (i / across f)

-- the header of a tile as a frame of its own, with these visible dimensions
abbrev pub tile_header : Header → TileArea → Header
tile_header h a = record {
  version = h.version;
  width = a.width;
  height = a.height;
  depth = h.depth;
  sampling = h.sampling;
  filter = h.filter;
  edge_filter = h.edge_filter;
  slots = h.slots;
  mask = h.mask;
}

-- a rectangle of the visible frame that makes a tile a valid frame of its own
pub record IsTileArea (h : Header) (a : TileArea) : Type 0 where
  pub columns : a.x + a.width ≤ h.width
  pub rows : a.y + a.height ≤ h.height
  pub frame : IsReadFrame (tile_header h a)

-- the column and the row of plane p at which a rectangle of luma begins
abbrev pub corner_column : Header → TileArea → ℕ → ℕ
corner_column h a p = a.x / 2 ^ xdec h p

abbrev pub corner_row : Header → TileArea → ℕ → ℕ
corner_row h a p = a.y / 2 ^ ydec h p

-- the samples of a rectangle, row by row, from a plane whose rows have `stride` samples
unfoldable pub rectangle : (stride x y width height : ℕ) → List ℕ → List ℕ
rectangle stride x y width height samples =
    flat_map (λ row. take width (drop ((y + row) * stride + x) samples)) (range_with_len 0 height)

-- a tile's rectangle of plane p of a reference
unfoldable pub tile_plane : Header → TileArea → ℕ → List ℕ → List ℕ
tile_plane h a p samples =
    rectangle (shown_columns h p) (corner_column h a p) (corner_row h a p) (shown_columns (tile_header h a) p)
    (shown_rows (tile_header h a) p) samples

-- a tile's rectangle of the three planes of a reference
abbrev pub tile_planes : Header → TileArea → List (List ℕ) → List (List ℕ)
tile_planes h a planes = tile_plane h a 0 (slice_index_or planes 0 []) ∷ tile_plane h a 1 (slice_index_or planes 1 []) ∷
    tile_plane h a 2 (slice_index_or planes 2 []) ∷ []

-- the references of a tile, for each slot
abbrev pub tile_references : Header → TileArea → List (Option (List (List ℕ))) → List (Option (List (List ℕ)))
tile_references h a references = map (option_map (tile_planes h a)) references

-- what the part of tile i spells: a plan with the tile's header and references
unfoldable pub tile_plan : FrontValue → ℕ → Format PlanValue
tile_plan f i =
    plan_behind (tile_header f.header (tile_area f i)) (tile_references f.header (tile_area f i) f.references)

-- the part of tile i
abbrev pub part_of : FileValue → ℕ → List ℕ
part_of f i = slice_index_or f.parts i []

-- ---- what a tile is predicted from

-- What a motion predicts in tile i. In version 3 of plans, it is what the motion would predict in the frame: motion
-- reads the whole of each reference from the tile's position on, as AV1's does. In earlier versions motion reads the
-- references of the tile's own plan, which are the tile's rectangle.
abbrev pub tile_motion : FrontValue → ℕ → PlanValue → (p : ℕ) → Motion → VisibleArea → (r c : ℕ) → ℕ
tile_motion f i plan p motion a =
    let h = f.header in
    let t = tile_area f i in
    let in_frame = shifted (corner_column h t p) (corner_row h t p) a in
    if follows_av1 h then plan_motion (frame_with h f.references) p motion in_frame else plan_motion plan p motion a

-- tile i with its header and its motion, as the walk takes it
abbrev pub tile_scene : FrontValue → ℕ → PlanValue → Scene
tile_scene f i plan = record { header = plan.header; motion = tile_motion f i plan }

-- the samples of tile i
unfoldable pub tile_walk : FrontValue → ℕ → PlanValue → Canvas
tile_walk f i plan = walk_of (tile_scene f i plan) plan.leaves
