-- The frame of a grid of tiles.
use Rattle.std.specs.Prelude.{◌≡◌, ℕ, ◌+◌, ◌<◌, ◌≤◌, List}
use Rattle.av1_lists.specs.Lists.{by_index}
use Rattle.av1_frame.specs.Areas.{VisibleArea}
use Rattle.av1_plan.specs.declared.header.Header.{Header}
use Rattle.av1_plan.specs.Geometry.{shown_columns, shown_rows}
use Rattle.av1_plan.specs.Plan.{PlanValue}
use Rattle.av1_tile.specs.declared.planes.Planes.{Planes}
use Rattle.av1_tile.specs.Canvas.{Component}
use Rattle.av1_tile.specs.PlaneBlocks.{component, number}
use Rattle.av1_tile.specs.Edge.{sample_of}
use Rattle.av1_tile.specs.Motion.{plan_motion}
use Rattle.av1_tile.specs.Reference.{slow_walk}
use Rattle.av1_tile.specs.Walk.{samples_of}
use Rattle.av1_tiles.specs.declared.area.TileArea.{TileArea}
use Rattle.av1_tiles.specs.Grammar.{FrontValue, FileValue, count_tiles}
use Rattle.av1_tiles.specs.Tiles.{tile_area, tile_header, tile_motion, tile_walk, corner_column, corner_row}
use Rattle.av1_tiles.specs.Validity.{AreTiles}

-- the rectangle at column x of row y that has the visible dimensions of plane p of a frame
abbrev pub placed : Header → (p x y : ℕ) → VisibleArea
placed h p x y = record { x = x; y = y; width = shown_columns h p; height = shown_rows h p }

-- the visible samples of row y of plane p of a frame
abbrev pub row_in : {T : Type 0} → (T → ℕ) → Header → Planes T → (p y : ℕ) → List ℕ
row_in num h planes p y = by_index (shown_columns h p) (λ x. samples_of num planes (component p) x y)

-- a tile's rectangle of plane p of its frame
abbrev pub tile_rectangle : Header → TileArea → (p : ℕ) → VisibleArea
tile_rectangle h a p = placed (tile_header h a) p (corner_column h a p) (corner_row h a p)

-- the dimensions of tile i in plane p
abbrev pub tile_columns : FrontValue → (i p : ℕ) → ℕ
tile_columns f i p = shown_columns (tile_header f.header (tile_area f i)) p

abbrev pub tile_rows : FrontValue → (i p : ℕ) → ℕ
tile_rows f i p = shown_rows (tile_header f.header (tile_area f i)) p

-- at the samples of tile i, the frame has the samples of the tile's plan, counted from the tile's corner in each plane
abbrev pub ShowsTile : FrontValue → (i : ℕ) → PlanValue → (Component → ℕ → ℕ → ℕ) → Type 0
ShowsTile f i plan frame =
    (component : Component) (x y : ℕ) → x < tile_columns f i (number component) → y < tile_rows f i (number component)
    → frame component (corner_column f.header (tile_area f i) (number component) + x)
    (corner_row f.header (tile_area f i) (number component) + y) ≡ sample_of (tile_walk f i plan component x y)

-- the joined planes: each tile shows its own plan
abbrev pub IsJoined : FileValue → (ℕ → PlanValue) → (Component → ℕ → ℕ → ℕ) → Type 0
IsJoined f plans frame = (i : ℕ) → i < count_tiles f.front → ShowsTile f.front i (plans i) frame

-- the joined planes of valid tiles
abbrev pub ComesTo : FileValue → (Component → ℕ → ℕ → ℕ) → Type 0
ComesTo f frame = (plans : ℕ → PlanValue) × AreTiles f plans × IsJoined f plans frame

-- Isolation: take tile i of two grids that has the same plan and the same corners in both, and is predicted from the
-- same samples. Then the joined planes of both grids agree at each sample of the tile.
abbrev pub TilesAreIsolated : Type 0
TilesAreIsolated =
    (f g : FileValue) (plans_f plans_g : ℕ → PlanValue) (frame_f frame_g : Component → ℕ → ℕ → ℕ) (i : ℕ)
    → AreTiles f plans_f → AreTiles g plans_g → IsJoined f plans_f frame_f → IsJoined g plans_g frame_g →
    i < count_tiles f.front → i < count_tiles g.front → plans_f i ≡ plans_g i
    → tile_motion f.front i (plans_f i) ≡ tile_motion g.front i (plans_g i)
    → ((component : Component) →
    corner_column f.front.header (tile_area f.front i) (number component) ≡
    corner_column g.front.header (tile_area g.front i) (number component))
    → ((component : Component) →
    corner_row f.front.header (tile_area f.front i) (number component) ≡
    corner_row g.front.header (tile_area g.front i) (number component))
    → (component : Component) (x y : ℕ) → x < tile_columns f.front i (number component) →
    y < tile_rows f.front i (number component)
    → let column = corner_column f.front.header (tile_area f.front i) (number component) + x in
    let row = corner_row f.front.header (tile_area f.front i) (number component) + y in
    frame_f component column row ≡ frame_g component column row

-- Up to version 2 of plans, tiles are predicted from nothing but their plans. So there the same plan is enough.
abbrev pub PlansAreAll : Type 0
PlansAreAll =
    (f : FrontValue) (i : ℕ) (plan : PlanValue) → f.header.version ≤ 2 →
    (tile_motion f i plan ≡ plan_motion plan) × (tile_walk f i plan ≡ slow_walk plan)
