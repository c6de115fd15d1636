-- The definitions of the walk in memory: what a step does to the planes, and what the functions of the walk require of
-- planes, blocks and leaves. Edges are read by position, and nothing records which samples were written.
use Rattle.std.specs.Prelude.{ℕ, ◌+◌, ◌-◌, ◌*◌, ◌/◌, ◌%◌, ◌^◌, ◌<◌, ◌≤◌, ◌≡◌, [], ◌∷◌, ◌++◌, true, false, Bool, ◌&&◌}
use Rattle.std.specs.Prelude.{List, All, IsTrue, min, nat_lt, if◌then◌else◌, Option, Some, None, ℤ, pos, length}
use Rattle.std.specs.Prelude.{slice_index_or, unsigned_abs, IfSome}
use Rattle.std.specs.Int.{next_multiple_of}
use Rattle.std.specs.List.{fold}
use Rattle.av1_blocks.specs.declared.partition.RefType.{RefType}
use Rattle.av1_blocks.specs.declared.predict.IntraParam.{IntraParam}
use Rattle.av1_blocks.specs.declared.predict.PredictionMode.{PredictionMode}
use Rattle.av1_blocks.specs.declared.predict.PredictionMode.TheVariants.{DC_PRED}
use Rattle.av1_blocks.specs.declared.transform.TxSize.TheVariants.{TX_4X4}
use Rattle.av1_blocks.specs.declared.transform.TxType.TheVariants.{WHT_WHT}
use Rattle.av1_blocks.specs.Blocks.{block_width, block_height}
use Rattle.av1_blocks.specs.Chroma.{is_narrow, is_low}
use Rattle.av1_blocks.specs.Modes.{is_intra, is_cfl}
use Rattle.av1_blocks.specs.Transforms.{coded_area, tx_width, tx_height, valid_av1_transform}
use Rattle.av1_dct.specs.Arithmetic.{FitsBits}
use Rattle.av1_avail.specs.Asked.{takes_above_right, takes_below_left}
use Rattle.av1_lists.specs.Counts.{counted}
use Rattle.av1_edges.specs.Edges.{Edge}
use Rattle.av1_edges.specs.Parts.{effective, step_of, needs_left, needs_above_right, needs_below_left, needs_corner}
use Rattle.av1_edges.specs.Parts.{smooths_corner}
use Rattle.av1_edges.specs.Sides.{above_at, base, corner_at, left_at, smoothed, num_avail, where_needed}
use Rattle.av1_lists.specs.Lists.{by_index}
use Rattle.av1_frame.specs.declared.plane.Plane.{Plane}
use Rattle.av1_frame.specs.declared.tile_state.CodedBlockInfo.{CodedBlockInfo}
use Rattle.av1_frame.specs.declared.plane.PlaneConfig.{PlaneConfig}
use Rattle.av1_frame.specs.Areas.{VisibleArea}
use Rattle.av1_frame.specs.Planes.{sample_at, painted_plane, IsWhole}
use Rattle.av1_intra.specs.ChromaFromLuma.{ac_at, chroma_block, columns_read, rows_read, first_luma_column}
use Rattle.av1_intra.specs.ChromaFromLuma.{first_luma_row}
use Rattle.av1_intra.specs.Predicted.{alpha_of}
use Rattle.av1_inter.specs.Reference.{is_reference, reference_of}
use Rattle.av1_intra.specs.declared.neighbours.IntraEdgeFilterParameters.{IntraEdgeFilterParameters}
use Rattle.av1_order.specs.Neighbours.{last_cell, leaf_holds}
use Rattle.av1_plan.specs.declared.header.Header.{Header}
use Rattle.av1_plan.specs.declared.geometry.PlaneArea.{PlaneArea}
use Rattle.av1_plan.specs.declared.leaf.Leaf.{Leaf}
use Rattle.av1_plan.specs.declared.leaf.LeafKind.TheVariants.{Intra}
use Rattle.av1_plan.specs.declared.leaf.Triple.{Triple}
use Rattle.av1_plan.specs.Geometry.{xdec, ydec, plane_width, plane_height, shown_columns, shown_rows, plane_area}
use Rattle.av1_plan.specs.Geometry.{coded_width, coded_height}
use Rattle.av1_plan.specs.Geometry.{carries_chroma, block_count, blocks_across, follows_av1}
use Rattle.av1_plan.specs.Plan.{LeafValue, PlanValue}
use Rattle.av1_plan.specs.ReadPlans.{IsOtherFrame, IsReadFrame}
use Rattle.av1_plan.specs.Validity.{has_reference}
use Rattle.av1_tile.specs.declared.references.TileReferences.{TileReferences}
use Rattle.av1_tile.specs.Motion.{ServesPlan, in_frame, leaf_area, motion_of, plan_motion, rect_of}
use Rattle.av1_tile.specs.declared.block.BlockPlace.{BlockPlace}
use Rattle.av1_tile.specs.declared.block.EdgePrediction.{EdgePrediction}
use Rattle.av1_tile.specs.declared.cells.CodedCells.{CodedCells}
use Rattle.av1_tile.specs.declared.extent.PlaneExtent.{PlaneExtent}
use Rattle.av1_tile.specs.declared.frame.WalkedFrame.{WalkedFrame}
use Rattle.av1_tile.specs.declared.motion.Motion.{Motion}
use Rattle.av1_tile.specs.declared.plane_block.LumaBlock.{LumaBlock}
use Rattle.av1_tile.specs.declared.plane_block.Nearby.{Nearby}
use Rattle.av1_tile.specs.declared.shared_chroma.MotionParts.{MotionParts}
use Rattle.av1_tile.specs.declared.plane_block.PlaneBlock.{PlaneBlock}
use Rattle.av1_tile.specs.declared.plane_block.Prediction.{Prediction}
use Rattle.av1_tile.specs.declared.plane_block.Prediction.TheVariants as predictions
use Rattle.av1_tile.specs.declared.planes.Planes.{Planes}
use Rattle.av1_tile.specs.Canvas.{Component, Y, U, V}
use Rattle.av1_tile.specs.PlaneBlocks.{number, component, extent_of, block_told, coded_info, filter_parameters}
use Rattle.av1_tile.specs.PlaneBlocks.{is_from_luma}
use Rattle.av1_tile.specs.PlaneBlocks.{triples_in}
use Rattle.av1_tile.specs.SharedChroma.{parts_at}
use Rattle.av1_tile.specs.Reference.{Scene, by_mode, by_prediction, luma_for, luma_of, added}
use Rattle.av1_tile.specs.Reference.{block_residue}
use Rattle.av1_tile.specs.Steps.{Step, predict, add, PlaneStep, steps_of}

-- ---- edges by place

-- The edge of the rectangle a for a mode in effect; `s x y` is the sample at column x of row y. `right` and `low` say
-- whether the samples above right and below left may be read.
abbrev pub edge_by_place : PlaneExtent → (s : ℕ → ℕ → ℕ) → (filter : Bool) → VisibleArea → (right low : Bool) →
    PredictionMode → ℤ → Edge
edge_by_place extent s filter a right low mode step =
    let run = min a.width a.height in
    let above =
    above_at s (base extent.depth) a.x a.y
    (num_avail extent.width a.x a.width (needs_above_right mode step && right) run) in
    let left =
    left_at s (base extent.depth) a.x a.y
    (num_avail extent.height a.y a.height (needs_below_left mode step && low) run) in
    let corner = if needs_corner mode step then corner_at s (base extent.depth) a.x a.y else base extent.depth in
    record {
      above = by_index (a.width + where_needed (needs_above_right mode step) a.height) above;
      left = by_index (where_needed (needs_left mode a.x) a.height + where_needed (needs_below_left mode step) a.width)
          left;
      corner = if smooths_corner filter mode step a.width a.height then smoothed (left 0) corner (above 0) else corner;
    }

-- transform block n of a block, at the rectangle a of plane p
module _ (h : Header) (p : ℕ) (block : PlaneBlock) (n : ℕ) (a : VisibleArea) where
  -- whether the samples above right of it may be read; then whether those below left may
  abbrev pub answer_right : Bool
  answer_right =
      takes_above_right block.leaf.size (block.leaf.x / 4)
      (block.leaf.y / 4) block.area.tx_size (n % blocks_across block.area) (n / blocks_across block.area) (xdec h p)
      (ydec h p) a.x (plane_width h p)

  abbrev pub answer_low : Bool
  answer_low =
      takes_below_left block.leaf.size (block.leaf.x / 4)
      (block.leaf.y / 4) block.area.tx_size (n % blocks_across block.area) (n / blocks_across block.area) (xdec h p)
      (ydec h p) a.y (plane_height h p)

  -- its edge, read from a plane's samples
  abbrev pub placed_edge : {T : Type 0} → (num : T → ℕ) → Plane T → PredictionMode → ℤ → Edge
  placed_edge num plane = edge_by_place (extent_of h p) (sample_at num plane) h.edge_filter a answer_right answer_low

-- ---- steps by place

-- a scene with this header in place of its own
abbrev pub with_header : Header → Scene → Scene
with_header h scene = record { header = h; motion = scene.motion }

-- What a step does to plane p of a scene; `luma` says how far luma is from its mean.
unfoldable pub fast_in : {T : Type 0} → (T → ℕ) → (ℕ → T) → Scene → (p : ℕ) → (luma : PlaneBlock → ℕ → ℕ → ℤ) →
    Plane T → Step → Plane T
fast_in num pixel scene p luma plane (predict block n a) =
    painted_plane plane a
    (λ r c _.
    pixel (by_prediction scene p block.prediction a (placed_edge scene.header p block n a num plane)
    (luma block) r c))
fast_in num pixel scene p luma plane (add block triples n a) =
    painted_plane plane a
    (λ r c v.
    pixel (added scene.header.depth (num v)
    (block_residue (follows_av1 scene.header) scene.header.depth block triples n r c)))

abbrev pub plane_of : {T : Type 0} → Component → Planes T → Plane T
plane_of Y planes = planes.y
plane_of U planes = planes.u
plane_of V planes = planes.v

-- the samples of planes as numbers, by plane, column and row
abbrev pub samples_of : {T : Type 0} → (T → ℕ) → Planes T → Component → ℕ → ℕ → ℕ
samples_of num planes = λ component x y. sample_at num (plane_of component planes) x y

-- the planes with p in place of one of them
abbrev pub with_plane : {T : Type 0} → Component → Planes T → Plane T → Planes T
with_plane Y planes p = record planes { y = p }
with_plane U planes p = record planes { u = p }
with_plane V planes p = record planes { v = p }

-- What a step does to the planes.
unfoldable pub fast_step : {T : Type 0} → (T → ℕ) → (ℕ → T) → Scene → Planes T → PlaneStep → Planes T
fast_step num pixel scene planes s =
    with_plane s.component planes (fast_in num pixel scene (number s.component)
    (luma_for scene.header (sample_at num planes.y) s.component) (plane_of s.component planes) s.step)

-- ---- prepared edges

-- whether a block is predicted from the samples round it
abbrev pub has_edge : Prediction → Bool
has_edge (predictions.Intra mode step filter) = true
has_edge (predictions.FromLuma alpha) = true
has_edge (predictions.Inter motion) = false
has_edge (predictions.Parts parts) = false

-- the count of prepared edges after a step
abbrev pub edges_in : ℕ → Step → ℕ
edges_in count (predict block n a) = if has_edge block.prediction then counted count else count
edges_in count (add block triples n a) = count

abbrev pub edges_after : ℕ → PlaneStep → ℕ
edges_after count s = edges_in count s.step

-- ---- planes

-- the plane has the width, height and decimations of the coded plane p of a frame, the shown part lies in it, and its
-- samples fill its rows
pub record IsPlaneOf {T : Type 0} (h : Header) (p : ℕ) (plane : Plane T) : Type 0 where
  pub whole : IsWhole plane
  pub width : plane.plane_cfg.width ≡ plane_width h p
  pub height : plane.plane_cfg.height ≡ plane_height h p
  pub shown_columns : shown_columns h p ≤ plane.plane_cfg.width
  pub shown_rows : shown_rows h p ≤ plane.plane_cfg.height
  pub xdec : plane.plane_cfg.xdec ≡ xdec h p
  pub ydec : plane.plane_cfg.ydec ≡ ydec h p

-- what is shown of plane p of a frame lies in the plane, whose samples fill its rows
pub record ShowsPart {T : Type 0} (h : Header) (p : ℕ) (plane : Plane T) : Type 0 where
  pub whole : IsWhole plane
  pub columns : shown_columns h p ≤ plane.plane_cfg.width
  pub rows : shown_rows h p ≤ plane.plane_cfg.height

-- the planes of a frame
pub record AreFrame {T : Type 0} (h : Header) (planes : Planes T) : Type 0 where
  pub y : IsPlaneOf h 0 planes.y
  pub u : IsPlaneOf h 1 planes.u
  pub v : IsPlaneOf h 2 planes.v

-- a plane of a frame whose samples lie within the depth
pub record Stores {T : Type 0} (num : T → ℕ) (h : Header) (p : ℕ) (plane : Plane T) : Type 0 where
  pub place : IsPlaneOf h p plane
  pub within : All (λ v. num v < 2 ^ h.depth) plane.samples

-- each plane stores its part of the frame
pub record StoresAll {T : Type 0} (num : T → ℕ) (h : Header) (planes : Planes T) : Type 0 where
  pub y : Stores num h 0 planes.y
  pub u : Stores num h 1 planes.u
  pub v : Stores num h 2 planes.v

-- a plane of these settings has storage for plane p of the frame, padded to whole superblocks of 64x64 luma samples
pub record HasRoomIn (h : Header) (p : ℕ) (cfg : PlaneConfig) : Type 0 where
  pub columns : cfg.xorigin + next_multiple_of (plane_width h p) (64 / 2 ^ xdec h p) ≤ cfg.stride
  pub rows : cfg.yorigin + next_multiple_of (plane_height h p) (64 / 2 ^ ydec h p) ≤ cfg.alloc_height

-- each of the three planes has that storage
pub record HasRoom {T : Type 0} (h : Header) (planes : Planes T) : Type 0 where
  pub y : HasRoomIn h 0 planes.y.plane_cfg
  pub u : HasRoomIn h 1 planes.u.plane_cfg
  pub v : HasRoomIn h 2 planes.v.plane_cfg

-- a plane of these settings has pads of `pad` luma samples on every side: half as many samples in a direction in which
-- plane p is halved
pub record HasPad (h : Header) (p pad : ℕ) (cfg : PlaneConfig) : Type 0 where
  pub columns : cfg.xpad ≡ pad / 2 ^ xdec h p
  pub rows : cfg.ypad ≡ pad / 2 ^ ydec h p

-- each of the three planes has these pads
pub record HasPads {T : Type 0} (h : Header) (pad : ℕ) (planes : Planes T) : Type 0 where
  pub y : HasPad h 0 pad planes.y.plane_cfg
  pub u : HasPad h 1 pad planes.u.plane_cfg
  pub v : HasPad h 2 pad planes.v.plane_cfg

-- planes laid out alike
pub record SameLayout {T : Type 0} (p q : Planes T) : Type 0 where
  pub y : q.y.plane_cfg ≡ p.y.plane_cfg
  pub u : q.u.plane_cfg ≡ p.u.plane_cfg
  pub v : q.v.plane_cfg ≡ p.v.plane_cfg

-- each stored sample of the three planes is `value`
pub record AreFilledWith {T : Type 0} (value : T) (planes : Planes T) : Type 0 where
  pub y : All (λ v. v ≡ value) planes.y.samples
  pub u : All (λ v. v ≡ value) planes.u.samples
  pub v : All (λ v. v ≡ value) planes.v.samples

-- ---- blocks and leaves

-- a triple that lies in its block and fits the depth
pub record TripleFits (depth : ℕ) (block : PlaneBlock) (t : Triple) : Type 0 where
  pub place : t.place < coded_area block.area.tx_size
  pub value : FitsBits (depth + 8) t.value

-- the triples are sorted by their blocks
abbrev pub AreRising : List Triple → Type 0
AreRising triples = (i j : ℕ) (d : Triple) → i ≤ j → j < length triples →
    (slice_index_or triples i d).block ≤ (slice_index_or triples j d).block

-- the rectangle of a transform block
abbrev pub area_at : PlaneBlock → BlockPlace → VisibleArea
area_at block at =
    record { x = at.x; y = at.y; width = tx_width block.area.tx_size; height = tx_height block.area.tx_size }

-- a transform block of a leaf's block that begins in the coded plane; its number, column, row and position agree
pub record IsPlaceIn (h : Header) (block : PlaneBlock) (at : BlockPlace) : Type 0 where
  pub column : at.column < blocks_across block.area
  pub number : at.number ≡ at.row * blocks_across block.area + at.column
  pub few : at.number < block_count block.area
  pub x : at.x ≡ block.area.x + at.column * tx_width block.area.tx_size
  pub y : at.y ≡ block.area.y + at.row * tx_height block.area.tx_size
  pub begins_x : at.x < plane_width h block.plane
  pub begins_y : at.y < plane_height h block.plane
  pub few_columns : at.x < 2 ^ 16
  pub few_rows : at.y < 2 ^ 16

-- the edge of a transform block, for a mode and its parameter
abbrev pub edge_for : {T : Type 0} → Header → PlaneBlock → BlockPlace → PredictionMode → IntraParam → (num : T → ℕ) →
    Plane T → Edge
edge_for h block at mode param num plane =
    placed_edge h block.plane block at.number (area_at block at) num plane (effective mode at.x at.y) (step_of param)

-- the sample at row r and column c that is predicted from that edge; `luma` is how far luma is from its mean, row by
-- row
abbrev pub predicted_at : {T : Type 0} → Header → PlaneBlock → BlockPlace → EdgePrediction → (luma : List ℤ) →
    (num : T → ℕ) → Plane T → (r c : ℕ) → ℕ
predicted_at h block at how luma num plane r c =
    by_mode (extent_of h block.plane) how.filter how.mode how.param (area_at block at)
    (placed_edge h block.plane block at.number (area_at block at) num plane)
    (ac_at (tx_width block.area.tx_size) luma) r c

-- an intra mode with an angle delta of at most 3 steps, or a weight of luma of at most 16 eighths. For a weight, `luma`
-- has a number for each sample of the block
pub record EdgePredictionFits (block : PlaneBlock) (luma : List ℤ) (how : EdgePrediction) : Type 0 where
  pub intra : IsTrue (is_intra how.mode)
  pub few_steps : unsigned_abs (step_of how.param) ≤ 3
  pub small_weight : unsigned_abs (alpha_of how.param) ≤ 16
  pub luma_long : IsTrue (is_cfl how.mode) → tx_width block.area.tx_size * tx_height block.area.tx_size ≤ length luma

-- an intra mode other than chroma from luma, with an angle delta of at most 3 steps
pub record ModeFits (mode : PredictionMode) (step : ℤ) : Type 0 where
  pub intra : IsTrue (is_intra mode)
  pub plain : is_cfl mode ≡ false
  pub few_steps : unsigned_abs step ≤ 3

-- a weight of luma of at most 16 eighths, and transform blocks of at most 1024 samples
pub record FromLumaFits (area : PlaneArea) (alpha : ℤ) : Type 0 where
  pub weight : unsigned_abs alpha ≤ 16
  pub few : tx_width area.tx_size * tx_height area.tx_size ≤ 1024

-- a reference from LAST to ALTREF, whose slot carries planes
pub record ReferenceFits (h : Header) (reference : RefType) : Type 0 where
  pub other : IsOtherFrame reference
  pub has : IsTrue (has_reference h reference)

-- a motion that can be predicted: its mode is an inter mode, and each of its references has a slot that carries planes
pub record MotionServes (h : Header) (motion : Motion) : Type 0 where
  pub mode : is_intra motion.mode ≡ false
  pub first : ReferenceFits h (reference_of motion.references 0)
  pub second : is_reference (reference_of motion.references 1) ≡ true →
      ReferenceFits h (reference_of motion.references 1)

-- a motion that can be predicted for the rectangle a of plane p, whose sides are at most 64 luma samples
pub record MotionFits (h : Header) (p : ℕ) (a : VisibleArea) (motion : Motion) : Type 0 where
  pub wide : a.width ≤ 64 / 2 ^ xdec h p
  pub high : a.height ≤ 64 / 2 ^ ydec h p
  pub serves : MotionServes h motion

-- each part's motion can be predicted
pub record PartsServe (h : Header) (parts : MotionParts) : Type 0 where
  pub corner : MotionServes h parts.corner
  pub over : MotionServes h parts.over
  pub side : MotionServes h parts.side
  pub own : MotionServes h parts.own

-- each part's motion can be predicted, for the rectangle a of plane p, whose sides are at most 64 luma samples
pub record PartsFit (h : Header) (p : ℕ) (a : VisibleArea) (parts : MotionParts) : Type 0 where
  pub wide : a.width ≤ 64 / 2 ^ xdec h p
  pub high : a.height ≤ 64 / 2 ^ ydec h p
  pub serve : PartsServe h parts

-- a prediction that can be made for an area of plane p
abbrev pub PredictionFits : Header → (p : ℕ) → PlaneArea → Prediction → Type 0
PredictionFits h p area (predictions.Intra mode step filter) = ModeFits mode step
PredictionFits h p area (predictions.FromLuma alpha) = FromLumaFits area alpha
PredictionFits h p area (predictions.Inter motion) = MotionFits h p (leaf_area area) motion
PredictionFits h p area (predictions.Parts parts) = PartsFit h p (leaf_area area) parts

-- a block that can be reconstructed: it lies in a plane's storage, its prediction and its transforms can be made, and
-- its triples fit and are sorted by their blocks
pub record BlockFits (cfg : PlaneConfig) (h : Header) (block : PlaneBlock) (triples : List Triple) : Type 0 where
  pub columns : cfg.xorigin + (block.area.x + block_width block.area.size) ≤ cfg.stride
  pub rows : cfg.yorigin + (block.area.y + block_height block.area.size) ≤ cfg.alloc_height
  pub prediction : PredictionFits h block.plane block.area block.prediction
  pub transform : IsTrue (valid_av1_transform block.area.tx_size block.tx_type)
  pub lossless : block.tx_type ≡ WHT_WHT → block.area.tx_size ≡ TX_4X4
  pub coefficients : All (TripleFits h.depth block) triples
  pub rising : AreRising triples

-- a leaf in luma
abbrev pub luma_block : LeafValue → LumaBlock
luma_block leaf = record { x = leaf.x; y = leaf.y; size = leaf.size; tx_size = leaf.tx_size }

-- the chroma of a leaf can be predicted from its luma: its chroma block is one transform, and the luma that it reads
-- lies in storage
pub record LumaFits (h : Header) (cfg : PlaneConfig) (leaf : LeafValue) : Type 0 where
  pub narrow : IsTrue (is_narrow leaf.size (xdec h 1)) → 4 ≤ leaf.x
  pub low : IsTrue (is_low leaf.size (ydec h 1)) → 4 ≤ leaf.y
  pub width : (chroma_block (luma_of h (luma_block leaf))).width ≡
      tx_width (plane_area h leaf.x leaf.y leaf.size leaf.tx_size 1).tx_size
  pub height : (chroma_block (luma_of h (luma_block leaf))).height ≡
      tx_height (plane_area h leaf.x leaf.y leaf.size leaf.tx_size 1).tx_size
  pub few : (chroma_block (luma_of h (luma_block leaf))).width * (chroma_block (luma_of h (luma_block leaf))).height ≤
      1024
  pub columns : cfg.xorigin +
      (first_luma_column (luma_of h (luma_block leaf)) + columns_read (chroma_block (luma_of h (luma_block leaf)))) ≤
      cfg.stride
  pub rows : cfg.yorigin +
      (first_luma_row (luma_of h (luma_block leaf)) + rows_read (chroma_block (luma_of h (luma_block leaf)))) ≤
      cfg.alloc_height
  pub depth : h.depth ≤ 12

-- a leaf's area in a plane begins in the coded part
pub record Begins (h : Header) (component : Component) (leaf : LeafValue) : Type 0 where
  pub column : (plane_area h leaf.x leaf.y leaf.size leaf.tx_size (number component)).x < plane_width h
      (number component)
  pub row : (plane_area h leaf.x leaf.y leaf.size leaf.tx_size (number component)).y < plane_height h (number component)

-- the parts that the earlier leaves give a leaf's block, if any, can be predicted
abbrev pub NearServes : Header → Nearby → Type 0
NearServes h near = IfSome near.parts (PartsServe h)

-- each block of a leaf can be reconstructed in its plane, whatever the earlier leaves say, and the leaf's own motion
-- can be predicted
pub record LeafFits {T : Type 0} (h : Header) (planes : Planes T) (leaf : LeafValue) : Type 0 where
  pub begins_y : Begins h Y leaf
  pub begins_u : carries_chroma h leaf.x leaf.y leaf.size ≡ true → Begins h U leaf
  pub begins_v : carries_chroma h leaf.x leaf.y leaf.size ≡ true → Begins h V leaf
  pub luma : carries_chroma h leaf.x leaf.y leaf.size ≡ true → is_from_luma leaf.kind ≡ true →
      LumaFits h planes.y.plane_cfg leaf
  pub y : (near : Nearby) → NearServes h near →
      BlockFits planes.y.plane_cfg h (block_told h near Y leaf) (triples_in Y leaf)
  pub u : carries_chroma h leaf.x leaf.y leaf.size ≡ true → (near : Nearby) → NearServes h near →
      BlockFits planes.u.plane_cfg h (block_told h near U leaf) (triples_in U leaf)
  pub v : carries_chroma h leaf.x leaf.y leaf.size ≡ true → (near : Nearby) → NearServes h near →
      BlockFits planes.v.plane_cfg h (block_told h near V leaf) (triples_in V leaf)
  pub serves : IfSome (motion_of leaf.kind) (MotionServes h)

-- ---- the record of cells

-- the modes and references that are recorded for the luma cell at column cx of row cy
abbrev pub cell_at : CodedCells → (cx cy : ℕ) → CodedBlockInfo
cell_at cells cx cy =
    slice_index_or cells.cells.items (cy * cells.columns + cx) (coded_info (Intra DC_PRED (pos 0) None))

-- the record is laid out for the frame's cells, and has an entry for each
pub record HasCells (h : Header) (cells : CodedCells) : Type 0 where
  pub columns : cells.columns ≡ coded_width h / 4
  pub rows : cells.rows ≡ coded_height h / 4
  pub filled : cells.rows * cells.columns ≤ length cells.cells.items

-- the modes and references of each luma cell
abbrev pub Told : Type 0
Told = (cx cy : ℕ) → CodedBlockInfo

-- the modes and references of the cells after a leaf is noted in each of its cells
abbrev pub with_leaf : Told → LeafValue → Told
with_leaf told leaf = λ cx cy. if leaf_holds leaf cx cy then coded_info leaf.kind else told cx cy

-- what the record has for the sample at column x of row y of plane p: the entry of the last cell of the sample's unit
abbrev pub told_by : Header → Told → (p x y : ℕ) → CodedBlockInfo
told_by h told p x y = told (last_cell (xdec h p) x) (last_cell (ydec h p) y)

-- the neighbours' parameters for the edge filter at an area of plane p, by the record
abbrev pub parameters_by : Header → Told → (p : ℕ) → PlaneArea → Option IntraEdgeFilterParameters
parameters_by h told p a =
    filter_parameters h p (if nat_lt 0 a.y then Some (told_by h told p a.x (a.y - 1)) else None)
    (if nat_lt 0 a.x then Some (told_by h told p (a.x - 1) a.y) else None)

-- the parameters at a leaf's area in a plane
abbrev pub filter_by : Header → Told → Component → LeafValue → Option IntraEdgeFilterParameters
filter_by h told component leaf =
    parameters_by h told (number component) (plane_area h leaf.x leaf.y leaf.size leaf.tx_size (number component))

-- a leaf and its triples in each plane
abbrev pub leaf_with : Leaf → List Triple → List Triple → List Triple → LeafValue
leaf_with l y u v = record {
  x = l.x;
  y = l.y;
  size = l.size;
  kind = l.kind;
  tx_size = l.tx_size;
  tx_type = l.tx_type;
  uv_type = l.uv_type;
  triples = y ∷ u ∷ v ∷ [];
}

-- ---- leaves that share a block

-- for each luma cell, the motion of the last leaf that was noted in it; None if no leaf was, or if that leaf is intra
abbrev pub Motions : Type 0
Motions = (cx cy : ℕ) → Option Motion

-- no motions; the motions after one more leaf; and the motions after these leaves
abbrev pub no_motions : Motions
no_motions = λ cx cy. None

abbrev pub with_motion : Motions → LeafValue → Motions
with_motion motions leaf = λ cx cy. if leaf_holds leaf cx cy then motion_of leaf.kind else motions cx cy

abbrev pub motions_of : List Leaf → Motions
motions_of leaves = fold (λ motions leaf. with_motion motions (leaf_with leaf [] [] [])) no_motions leaves

-- each of the motions can be predicted
abbrev pub MotionsServe : Header → Motions → Type 0
MotionsServe h motions = (cx cy : ℕ) → IfSome (motions cx cy) (MotionServes h)

-- the parts of a leaf's block in plane p, by these motions
abbrev pub parts_by : Header → Motions → (p : ℕ) → LeafValue → Option MotionParts
parts_by h motions p leaf =
    parts_at (is_narrow leaf.size (xdec h p)) (is_low leaf.size (ydec h p)) (with_motion motions leaf) (leaf.x / 4)
    (leaf.y / 4)

-- ---- steps by what is known

-- what is known of the leaves before a leaf
pub record Known : Type 0 where
  pub told : Told
  pub motions : Motions

-- no leaf came before; the record of cells may hold anything
abbrev pub at_start : Told → Known
at_start told = record { told = told; motions = no_motions }

-- what is known after one more leaf, and after several
abbrev pub with_known : Known → LeafValue → Known
with_known known leaf =
    record { told = with_leaf known.told leaf; motions = with_motion known.motions leaf }

abbrev pub with_all_known : Known → List LeafValue → Known
with_all_known known leaves = fold with_known known leaves

-- what the known leaves say of a leaf's block in a plane; then the block, and the leaf's steps
abbrev pub near_by : Header → Known → Component → LeafValue → Nearby
near_by h known component leaf = record {
  filter = filter_by h known.told component leaf;
  parts = parts_by h known.motions (number component) leaf;
}

abbrev pub block_by : Header → Known → Component → LeafValue → PlaneBlock
block_by h known component leaf = block_told h (near_by h known component leaf) component leaf

abbrev pub leaf_steps_by : Header → Known → LeafValue → List PlaneStep
leaf_steps_by h known leaf = steps_of h (λ component. block_by h known component leaf) leaf

-- the steps of leaves in coding order; each leaf is known to the leaves after it
abbrev pub steps_by : Header → Known → List LeafValue → List PlaneStep
steps_by h known [] = []
steps_by h known (leaf ∷ leaves) = leaf_steps_by h known leaf ++ steps_by h (with_known known leaf) leaves

-- ---- the references

-- The references of a tile give what inter leaves predict in the scene. They are the references of a plan, read from
-- the tile's position in the frame. The plan's header and the scene's agree in all that motion reads of a header.
pub record ServesScene {T : Type 0} (num : T → ℕ) (scene : Scene) (from : TileReferences T) : Type 0 where
  pub plan : PlanValue
  pub serves : ServesPlan num plan from.fi.now
  pub depth : plan.header.depth ≡ scene.header.depth
  pub xdec : (p : ℕ) → xdec plan.header p ≡ xdec scene.header p
  pub ydec : (p : ℕ) → ydec plan.header p ≡ ydec scene.header p
  pub has : (reference : RefType) → has_reference plan.header reference ≡ has_reference scene.header reference
  pub near_x : (p : ℕ) → (rect_of from p).x < 2 ^ 16
  pub near_y : (p : ℕ) → (rect_of from p).y < 2 ^ 16
  pub motion : (p : ℕ) (motion : Motion) (a : VisibleArea) (r c : ℕ) →
      scene.motion p motion a r c ≡ plan_motion plan p motion (in_frame (rect_of from p) a) r c

-- ---- the frame that is walked

-- The header can be read, and its depth fits samples of `bits` bits. The record is laid out for the frame's cells. The
-- references serve a scene with this header, and so do the motions of the earlier leaves.
pub record IsWalked {T : Type 0} (num : T → ℕ) (bits : ℕ) (frame : WalkedFrame T) : Type 0 where
  pub header : IsReadFrame frame.header.now
  pub depth : frame.header.now.depth ≤ bits
  pub cells : HasCells frame.header.now frame.cells.now
  pub references : (value : Scene) × ServesScene num (with_header frame.header.now value) frame.from.now
  pub motions : MotionsServe frame.header.now (motions_of frame.earlier.now)

-- plane p of a frame that can be read; its depth fits samples of `bits` bits
pub record IsWalkedPlane {T : Type 0} (num : T → ℕ) (bits : ℕ) (h : Header) (p : ℕ) (plane : Plane T) : Type 0 where
  pub frame : IsReadFrame h
  pub depth : h.depth ≤ bits
  pub stores : Stores num h p plane

-- the three planes of such a frame
pub record AreWalkedPlanes {T : Type 0} (num : T → ℕ) (bits : ℕ) (h : Header) (planes : Planes T) : Type 0 where
  pub frame : IsReadFrame h
  pub depth : h.depth ≤ bits
  pub stores : StoresAll num h planes

-- the plane after some steps: it still stores its part of the frame, laid out as before
pub record KeepsPlane {T : Type 0} (num : T → ℕ) (h : Header) (p : ℕ) (before after : Plane T) : Type 0 where
  pub stores : Stores num h p after
  pub config : after.plane_cfg ≡ before.plane_cfg

-- each of the three planes does so
pub record KeepsPlanes {T : Type 0} (num : T → ℕ) (h : Header) (before after : Planes T) : Type 0 where
  pub stores : StoresAll num h after
  pub layout : SameLayout before after

-- `after` is the result of these steps of a block in its plane, in any scene with this header. `luma` holds the
-- distance of luma from its mean, row by row.
abbrev pub Walks : {T : Type 0} → (T → ℕ) → (ℕ → T) → Header → PlaneBlock → (luma : List ℤ) → List Step →
    (before after : Plane T) → Type 0
Walks num pixel h block luma steps before after =
    (value : Scene) →
    after ≡
    fold (fast_in num pixel (with_header h value) block.plane (λ _. ac_at (tx_width block.area.tx_size) luma))
    before steps

-- what a walked frame knows of the earlier leaves
abbrev pub known_in : {T : Type 0} → WalkedFrame T → Known
known_in frame = record { told = cell_at frame.cells.now; motions = motions_of frame.earlier.now }

-- a leaf's block in plane p of a walked frame
abbrev pub block_in : {T : Type 0} → WalkedFrame T → (p : ℕ) → Leaf → PlaneBlock
block_in frame p leaf = block_by frame.header.now (known_in frame) (component p) (leaf_with leaf [] [] [])
