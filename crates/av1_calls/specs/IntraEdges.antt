-- The contracts of the calls that prepare the edge of a transform, from a plane, a tile and the transform in numbers.
-- AV1 specification: intra prediction process: general.
use Rattle.std.specs.Prelude.{◌≡◌, ◌≢◌, ◌⊎◌, ℕ, ◌+◌, ◌-◌, ◌*◌, ◌^◌, ◌<◌, ◌≤◌, ◌==◌, not, if◌then◌else◌, IsTrue, List}
use Rattle.std.specs.Prelude.{[], ◌∷◌, drop, length, map, reverse, take, Option, None, Some, slice_get, ℤ, pos}
use Rattle.av1_avail.specs.Cells.{transform_columns, transform_rows}
use Rattle.av1_blocks.specs.declared.partition.BlockSize.{BlockSize}
use Rattle.av1_blocks.specs.declared.partition.TheConstants.BlockSize as block_sizes
use Rattle.av1_blocks.specs.declared.predict.IntraParam.TheVariants.{AngleDelta}
use Rattle.av1_blocks.specs.declared.predict.PredictionMode.{PredictionMode}
use Rattle.av1_blocks.specs.declared.predict.TheConstants.PredictionMode as modes
use Rattle.av1_blocks.specs.declared.transform.TxSize.{TxSize}
use Rattle.av1_blocks.specs.Modes.{is_intra}
use Rattle.av1_edges.specs.Edges.{Edge, position_of, prepared_edge}
use Rattle.av1_frame.specs.declared.block_unit.TileBlockOffset.{TileBlockOffset}
use Rattle.av1_frame.specs.declared.plane.PlaneOffset.{PlaneOffset}
use Rattle.av1_frame.specs.Areas.{AreRows}
use Rattle.av1_frame.specs.Planes.{bare_config}
use Rattle.av1_frame.specs.Samples.{part}
use Rattle.av1_frame.specs.declared.plane.PlaneConfig.{PlaneConfig}
use Rattle.av1_frame.specs.declared.plane_region.PlaneRegion.{PlaneRegion}
use Rattle.av1_frame.specs.declared.plane_region.StoredArea.{StoredArea}
use Rattle.av1_calls.specs.Arguments.{HasNoSize, IsSize}
use Rattle.av1_calls.specs.IntraBlocks.{IsDepthWithin, IsTurn}
use Rattle.av1_calls.specs.declared.argument.BadArgument.{BadArgument}
use Rattle.av1_calls.specs.declared.argument.BadArgument.TheVariants as bad
use Rattle.av1_calls.specs.declared.intra_edge.EdgeBlock.{EdgeBlock}
use Rattle.av1_calls.specs.declared.intra_edge.EdgePlane.{EdgePlane}
use Rattle.av1_calls.specs.declared.intra_edge.TheConstants.{ANY_MODE, EDGE_SAMPLES}
use Rattle.av1_calls.specs.declared.status.TheConstants.{BAD_ANGLE, BAD_AREA, BAD_DEPTH, BAD_MODE, BAD_SIZE, DONE}
use Rattle.av1_calls.specs.declared.status.TheConstants.{ROOM_TOO_SMALL}

-- ---- what is required

-- this is the intra mode of the number, including chroma from luma, or none if the number stands for no mode
abbrev pub IsEdgeMode : ℕ → Option PredictionMode → Type 0
IsEdgeMode number None = number ≡ ANY_MODE
IsEdgeMode number (Some mode) = (slice_get modes.ALL number ≡ Some mode) × IsTrue (is_intra mode)

-- the mode may turn this many steps; with no mode, any number is valid
abbrev pub IsEdgeTurn : Option PredictionMode → ℤ → Type 0
IsEdgeTurn None step = Unit
IsEdgeTurn (Some mode) step = IsTurn mode step

abbrev pub IsBlockSize : ℕ → BlockSize → Type 0
IsBlockSize number size = slice_get block_sizes.ALL number ≡ Some size

-- the rectangle of the visible samples, and the rectangle of the tile
abbrev pub plane_of : EdgePlane → StoredArea
plane_of p = record { x = p.x; y = p.y; width = p.width; height = p.height }

abbrev pub tile_of : EdgePlane → StoredArea
tile_of p = record { x = p.x + p.tile_x; y = p.y + p.tile_y; width = p.tile_width; height = p.tile_height }

-- how often a plane's columns, or its rows, are halved
abbrev pub halvings : ℕ → ℕ
halvings halved = if halved == 0 then 0 else 1

-- the plane's settings
abbrev pub config_of : EdgePlane → PlaneConfig
config_of p = record (bare_config p.stride (p.y + p.height) (plane_of p)) {
  xdec = halvings p.halved_columns;
  ydec = halvings p.halved_rows;
}

-- r is the tile in these samples
pub record IsTile {T : Type 0} (r : PlaneRegion T) (p : EdgePlane) (samples : List T) : Type 0 where
  pub stored : r.samples.now ≡ take ((p.y + p.height) * p.stride) samples
  pub cfg : r.plane_cfg ≡ config_of p
  pub area : r.area ≡ tile_of p

-- the plane lies in this many samples, and the tile in the plane
pub record LiesIn (p : EdgePlane) (samples : ℕ) : Type 0 where
  pub rows : AreRows p.stride (plane_of p) samples
  pub tile_columns : p.tile_x + p.tile_width ≤ p.width
  pub tile_rows : p.tile_y + p.tile_height ≤ p.height

-- the transform begins in the tile, and not too far from the start of its block
pub record BeginsIn (p : EdgePlane) (b : EdgeBlock) (size : TxSize) : Type 0 where
  pub column : b.x < p.tile_width
  pub row : b.y < p.tile_height
  pub few_columns : b.unit_x * transform_columns size < 2 ^ 16
  pub few_rows : b.unit_y * transform_rows size < 2 ^ 16

-- the numbers name a mode, or none, and sizes
pub record IsNamed (b : EdgeBlock) (mode : Option PredictionMode) (size : TxSize) (block : BlockSize) : Type 0 where
  pub moded : IsEdgeMode b.mode mode
  pub sized : IsSize b.tx_size size
  pub blocked : IsBlockSize b.block_size block

-- The numbers are valid for samples of this many bits, and the buffer is long enough for an edge.
pub record IsEdge (bits : ℕ) (p : EdgePlane) (b : EdgeBlock) (samples room : ℕ) (mode : Option PredictionMode)
    (size : TxSize) (block : BlockSize) : Type 0 where
  pub roomy : EDGE_SAMPLES ≤ room
  pub moded : IsEdgeMode b.mode mode
  pub sized : IsSize b.tx_size size
  pub blocked : IsBlockSize b.block_size block
  pub turn : IsEdgeTurn mode b.angle_step
  pub depth : IsDepthWithin bits b.bit_depth
  pub lies : LiesIn p samples
  pub begins : BeginsIn p b size

-- the first cell of the transform's block, and the transform's first sample
abbrev pub cell_of : EdgeBlock → TileBlockOffset
cell_of b = record { 0 = record { x = b.cell_x; y = b.cell_y } }

abbrev pub place_of : EdgeBlock → PlaneOffset
place_of b = record { x = pos b.x; y = pos b.y }

-- the edge of a transform in a region
abbrev pub edge_in : {T : Type 0} → (T → ℕ) → PlaneRegion T → EdgeBlock → Option PredictionMode → TxSize → BlockSize →
    Edge
edge_in num r b mode size block =
    prepared_edge num r (position_of (cell_of b) b.unit_x b.unit_y block (place_of b) size) b.bit_depth mode
    (not (b.edge_filter == 0)) (AngleDelta b.angle_step)

-- The buffer holds the edge. The left side ends before sample 128 and runs from the bottom up. Sample 128 is the
-- corner, and the side above begins at sample 129.
pub record HoldsEdge {T : Type 0} (num : T → ℕ) (e : Edge) (room : List T) : Type 0 where
  pub few_left : length e.left ≤ 128
  pub few_above : length e.above ≤ 128
  pub left : map num (part (128 - length e.left) (length e.left) room) ≡ reverse e.left
  pub corner : map num (part 128 1 room) ≡ e.corner ∷ []
  pub above : map num (part 129 (length e.above) room) ≡ e.above

-- ---- what is rejected with a long enough buffer: each reason includes that the tests before it passed

abbrev pub HasNoEdgeMode : ℕ → Type 0
HasNoEdgeMode number = (mode : Option PredictionMode) → ¬ IsEdgeMode number mode

-- no transform size has the number, or no block size
abbrev pub HasNoSizes : EdgeBlock → Type 0
HasNoSizes b =
    (mode : Option PredictionMode) ×
    (IsEdgeMode b.mode mode × (HasNoSize b.tx_size ⊎ (slice_get block_sizes.ALL b.block_size ≡ None)))

-- the mode may not turn this many steps
abbrev pub HasNoTurn : EdgeBlock → Type 0
HasNoTurn b =
    (mode : Option PredictionMode) ×
    ((size : TxSize) × ((block : BlockSize) × (IsNamed b mode size block × (¬ IsEdgeTurn mode b.angle_step))))

-- samples of this many bits have no such depth
abbrev pub HasNoDepth : (bits : ℕ) → EdgeBlock → Type 0
HasNoDepth bits b =
    (mode : Option PredictionMode) ×
    ((size : TxSize) ×
    ((block : BlockSize) ×
    (IsNamed b mode size block × (IsEdgeTurn mode b.angle_step × (¬ IsDepthWithin bits b.bit_depth)))))

-- the plane does not lie in the samples, or the tile not in the plane, or the transform does not begin where it may
abbrev pub HasNoPlace : (bits : ℕ) → EdgePlane → EdgeBlock → (samples : ℕ) → Type 0
HasNoPlace bits p b samples =
    (mode : Option PredictionMode) × ((size : TxSize) × ((block : BlockSize) × (IsNamed b mode size block
    × (IsEdgeTurn mode b.angle_step × (IsDepthWithin bits b.bit_depth × (¬ (LiesIn p samples × BeginsIn p b size)))))))

-- ---- the contracts

-- The call prepares the edge of a transform, from samples of at most this many bits. `before` is its buffer before the
-- call, `after` after it, and `answer` is the status.
pub record PreparesEdge {T : Type 0} (bits : ℕ) (num : T → ℕ) (plane : EdgePlane) (at : EdgeBlock)
    (samples before after : List T) (answer : ℕ) : Type 0 where
  -- The arguments name a transform in a tile, and the buffer holds the edge of the transform.
  pub done : answer ≡ DONE → (mode : Option PredictionMode) × ((size : TxSize) × ((block : BlockSize)
      × (IsEdge bits plane at (length samples) (length before) mode size block
      × ((r : PlaneRegion T) × (IsTile r plane samples × HoldsEdge num (edge_in num r at mode size block) after)))))
  -- The call requires nothing else of its arguments.
  pub asked : (mode : Option PredictionMode) → (size : TxSize) → (block : BlockSize)
      → IsEdge bits plane at (length samples) (length before) mode size block → answer ≡ DONE
  -- The status names the first bad argument, and these clauses say what is wrong with it.
  pub room : answer ≡ ROOM_TOO_SMALL → length before < EDGE_SAMPLES
  pub mode : answer ≡ BAD_MODE → (EDGE_SAMPLES ≤ length before) × HasNoEdgeMode at.mode
  pub size : answer ≡ BAD_SIZE → (EDGE_SAMPLES ≤ length before) × HasNoSizes at
  pub angle : answer ≡ BAD_ANGLE → (EDGE_SAMPLES ≤ length before) × HasNoTurn at
  pub depth : answer ≡ BAD_DEPTH → (EDGE_SAMPLES ≤ length before) × HasNoDepth bits at
  pub area : answer ≡ BAD_AREA → (EDGE_SAMPLES ≤ length before) × HasNoPlace bits plane at (length samples)
  -- The samples after the edge are unchanged. If the call rejects an argument, all samples are unchanged.
  pub rest : drop EDGE_SAMPLES after ≡ drop EDGE_SAMPLES before
  pub kept : answer ≢ DONE → after ≡ before
  pub known : (answer ≡ DONE) ⊎ ((answer ≡ ROOM_TOO_SMALL) ⊎ ((answer ≡ BAD_MODE) ⊎ ((answer ≡ BAD_SIZE)
      ⊎ ((answer ≡ BAD_ANGLE) ⊎ ((answer ≡ BAD_DEPTH) ⊎ (answer ≡ BAD_AREA))))))

-- ---- definitions for private contracts: why nothing is written

abbrev pub IsNameFault : (bits : ℕ) → EdgeBlock → BadArgument → Type 0
IsNameFault bits b bad.Mode = HasNoEdgeMode b.mode
IsNameFault bits b bad.Size = HasNoSizes b
IsNameFault bits b bad.Angle = HasNoTurn b
IsNameFault bits b bad.Depth = HasNoDepth bits b
IsNameFault bits b _ = ⊥
