-- The slow definition of a plan's samples: its steps in coding order, over a canvas that is empty at first.
-- AV1 specification: decode block syntax, compute prediction syntax (which calls the prediction processes),
-- reconstruction process.
use Rattle.std.specs.Prelude.{ℕ, ◌+◌, ◌-◌, ◌/◌, ◌==◌, List, replicate, slice_set, if◌then◌else◌, ℤ, pos, ◌+ℤ◌}
use Rattle.std.specs.Prelude.{Option, Some}
use Rattle.std.specs.Prelude.{None, option_map, unsigned_abs, Bool, true, false, nat_lt}
use Rattle.std.specs.List.{fold}
use Rattle.av1_blocks.specs.declared.predict.PredictionMode.{PredictionMode}
use Rattle.av1_blocks.specs.declared.predict.PredictionMode.TheVariants.{UV_CFL_PRED}
use Rattle.av1_blocks.specs.declared.predict.IntraParam.{IntraParam}
use Rattle.av1_blocks.specs.declared.predict.IntraParam.TheVariants.{AngleDelta, Alpha}
use Rattle.av1_blocks.specs.declared.transform.TxSize.{TxSize}
use Rattle.av1_blocks.specs.Transforms.{coded_area}
use Rattle.av1_frame.specs.Areas.{VisibleArea}
use Rattle.av1_frame.specs.Arithmetic.{clip}
use Rattle.av1_edges.specs.Edges.{Edge}
use Rattle.av1_edges.specs.Parts.{effective, step_of}
use Rattle.av1_intra.specs.declared.luma.LumaLeaf.{LumaLeaf}
use Rattle.av1_intra.specs.declared.neighbours.IntraEdgeFilterParameters.{IntraEdgeFilterParameters}
use Rattle.av1_intra.specs.ChromaFromLuma.{leaf_difference}
use Rattle.av1_intra.specs.Neighbours.{uses_smooth_filter}
use Rattle.av1_intra.specs.Predicted.{predicted as intra_predicted, variant_at, angle_or_alpha}
use Rattle.av1_itx.specs.Residue.{residue_by}
use Rattle.av1_plan.specs.declared.header.Header.{Header}
use Rattle.av1_plan.specs.declared.leaf.Triple.{Triple}
use Rattle.av1_plan.specs.Geometry.{follows_av1, xdec, ydec, plane_width, plane_height}
use Rattle.av1_plan.specs.Plan.{LeafValue, PlanValue}
use Rattle.av1_tile.specs.declared.extent.PlaneExtent.{PlaneExtent}
use Rattle.av1_tile.specs.declared.plane_block.LumaBlock.{LumaBlock}
use Rattle.av1_tile.specs.declared.motion.Motion.{Motion}
use Rattle.av1_tile.specs.declared.shared_chroma.MotionParts.{MotionParts}
use Rattle.av1_tile.specs.declared.plane_block.PlaneBlock.{PlaneBlock}
use Rattle.av1_tile.specs.declared.plane_block.Prediction.{Prediction}
use Rattle.av1_tile.specs.declared.plane_block.Prediction.TheVariants as predictions
use Rattle.av1_tile.specs.Canvas.{Component, Y, Written, Canvas, blank, drawn, with_written}
use Rattle.av1_tile.specs.Edge.{edge, sample_of}
use Rattle.av1_tile.specs.Motion.{plan_motion}
use Rattle.av1_tile.specs.PlaneBlocks.{number, extent_of}
use Rattle.av1_tile.specs.Steps.{Step, predict, add, PlaneStep, steps}

-- ---- prediction

-- The sample at row r and column c of the rectangle a, predicted by an intra mode. `edge m step` is its edge for the
-- mode m in effect. `luma` is how far luma is from its mean. `visible_columns` and `visible_rows` count what is left of
-- the extent from a on. For UV_CFL_PRED, p is alpha, and `p_angle` is not used.
abbrev pub by_mode : PlaneExtent → Option IntraEdgeFilterParameters → PredictionMode → IntraParam → VisibleArea →
    (edge : PredictionMode → ℤ → Edge) → (luma : ℕ → ℕ → ℤ) → (r c : ℕ) → ℕ
by_mode extent filter mode param a edge luma r c =
    let m = effective mode a.x a.y in
    let p = angle_or_alpha m param in
    intra_predicted (record {
      p_angle = unsigned_abs p;
      width = a.width;
      height = a.height;
      bit_depth = extent.depth;
      smooth_filter = option_map uses_smooth_filter filter;
      visible_columns = extent.width - a.x;
      visible_rows = extent.height - a.y;
    }) (variant_at a.x a.y) m p luma (edge m (step_of param)) r c

-- the distance of luma from its mean for a block that does not read luma: 0
abbrev pub no_luma : ℕ → ℕ → ℤ
no_luma r c = pos 0

-- The header of a frame, or of a tile as a frame of its own; `motion p m a r c` is the sample that the motion m
-- predicts at row r and column c of the rectangle a of plane p.
pub record Scene : Type 0 where
  pub header : Header
  pub motion : (p : ℕ) → Motion → VisibleArea → (r c : ℕ) → ℕ

-- the scene of a plan, whose motion reads the plan's own references
abbrev pub scene : PlanValue → Scene
scene plan = record { header = plan.header; motion = plan_motion plan }

-- What g predicts of a rectangle. If the rectangle has two columns of parts, f predicts its left half and g the right
abbrev pub beside : (narrow : Bool) → (f g : VisibleArea → ℕ → ℕ → ℕ) → VisibleArea → (r c : ℕ) → ℕ
beside false f g a r c = g a r c
beside true f g a r c =
    let w = a.width / 2 in
    if nat_lt c w then f (record a { width = w }) r c
    else g (record a { x = a.x + w; width = a.width - w }) r (c - w)

-- What g predicts of a rectangle. If the rectangle has two rows of parts, f predicts its upper half and g the lower
abbrev pub above : (low : Bool) → (f g : VisibleArea → ℕ → ℕ → ℕ) → VisibleArea → (r c : ℕ) → ℕ
above false f g a r c = g a r c
above true f g a r c =
    let n = a.height / 2 in
    if nat_lt r n then f (record a { height = n }) r c
    else g (record a { y = a.y + n; height = a.height - n }) (r - n) c

-- a rectangle that is predicted in parts, each part by its own motion
abbrev pub parts_motion : (motion : Motion → VisibleArea → ℕ → ℕ → ℕ) → MotionParts → VisibleArea → (r c : ℕ) → ℕ
parts_motion motion parts =
    above parts.low (beside parts.narrow (motion parts.corner) (motion parts.over))
    (beside parts.narrow (motion parts.side) (motion parts.own))

-- The sample that a prediction gives at row r and column c of the rectangle a of plane p of a scene.
unfoldable pub by_prediction : Scene → (p : ℕ) → Prediction → VisibleArea → (edge : PredictionMode → ℤ → Edge) →
    (luma : ℕ → ℕ → ℤ) → (r c : ℕ) → ℕ
by_prediction scene p (predictions.Intra mode step filter) a edge luma r c =
    by_mode (extent_of scene.header p) filter mode (AngleDelta step) a edge no_luma r c
by_prediction scene p (predictions.FromLuma alpha) a edge luma r c =
    by_mode (extent_of scene.header p) None UV_CFL_PRED (Alpha alpha) a edge luma r c
by_prediction scene p (predictions.Inter motion) a edge luma r c = scene.motion p motion a r c
by_prediction scene p (predictions.Parts parts) a edge luma r c = parts_motion (scene.motion p) parts a r c

-- a leaf of a frame, as chroma from luma reads it: `visible_width` and `visible_height` are those of the coded luma
-- plane
abbrev pub luma_of : Header → LumaBlock → LumaLeaf
luma_of h leaf = record {
  x = leaf.x;
  y = leaf.y;
  bsize = leaf.size;
  tx_size = leaf.tx_size;
  visible_width = plane_width h 0;
  visible_height = plane_height h 0;
  xdec = xdec h 1;
  ydec = ydec h 1;
}

-- how far luma is from its mean, for each chroma sample of a leaf's block; `luma x y` is the luma sample at column x of
-- row y
abbrev pub luma_for : Header → (luma : ℕ → ℕ → ℕ) → Component → PlaneBlock → (r c : ℕ) → ℤ
luma_for h luma Y = λ block. no_luma
luma_for h luma component = λ block. leaf_difference luma (luma_of h block.leaf)

-- the sample that a block predicts at row r and column c of the rectangle a, from the samples that have been written
unfoldable pub predicted : Scene → Canvas → Component → PlaneBlock → VisibleArea → (r c : ℕ) → ℕ
predicted scene canvas component block a r c =
    let h = scene.header in
    let p = number component in
    by_prediction scene p block.prediction a
    (λ mode step. edge (extent_of h p) h.edge_filter (canvas component) mode step a)
    (luma_for h (λ x y. sample_of (canvas Y x y)) component block) r c

-- ---- residual

-- the list of coefficients with a triple's value at its place, if the triple belongs to transform block n
abbrev pub with_triple : ℕ → List ℤ → Triple → List ℤ
with_triple n coefficients t = if t.block == n then slice_set coefficients t.place t.value else coefficients

-- the coefficients of transform block n: the values of its triples at their places, and 0 at all others
unfoldable pub coefficients : TxSize → (n : ℕ) → List Triple → List ℤ
coefficients size n triples = fold (with_triple n) (replicate (coded_area size) (pos 0)) triples

-- the residual at row r and column c of transform block n, by AV1's rule for identities or by rav1e's
unfoldable pub block_residue : (by_av1 : Bool) (depth : ℕ) → PlaneBlock → List Triple → (n r c : ℕ) → ℤ
block_residue by_av1 depth block triples n r c =
    residue_by by_av1 block.area.tx_size block.tx_type depth (coefficients block.area.tx_size n triples) r c

-- the sample v with z added, clipped to the depth
abbrev pub added : (depth : ℕ) → ℕ → ℤ → ℕ
added depth v z = clip depth (pos v +ℤ z)

-- ---- the walk

-- what a step writes in its plane: it predicts each sample of its rectangle, or adds the residual to each
unfoldable pub slow_in : Scene → Canvas → Component → Step → Written
slow_in scene canvas component (predict block n a) =
    drawn a (λ r c _. Some (predicted scene canvas component block a r c)) (canvas component)
slow_in scene canvas component (add block triples n a) =
    let h = scene.header in
    drawn a (λ r c o. option_map (λ v. added h.depth v (block_residue (follows_av1 h) h.depth block triples n r c)) o)
    (canvas component)

-- the canvas after a step
unfoldable pub slow_step : Scene → Canvas → PlaneStep → Canvas
slow_step scene canvas s = with_written s.component (slow_in scene canvas s.component s.step) canvas

-- the canvas after every step of these leaves
unfoldable pub walk_of : Scene → List LeafValue → Canvas
walk_of scene leaves = fold (slow_step scene) blank (steps scene.header leaves)

-- the canvas after every step of a plan
unfoldable pub slow_walk : PlanValue → Canvas
slow_walk plan = walk_of (scene plan) plan.leaves
