-- The predictions of a plan: a canvas that only its Predict steps write, next to the canvas of all its steps.
-- AV1 specification: prediction processes, as the decode block syntax calls them.
use Rattle.std.specs.Prelude.{ℕ, ◌+◌, ◌*◌, ◌≡◌, List, map, replicate, Some, ℤ}
use Rattle.std.specs.List.{fold}
use Rattle.av1_blocks.specs.Transforms.{tx_width}
use Rattle.av1_frame.specs.declared.plane.Plane.{Plane}
use Rattle.av1_frame.specs.declared.plane_region.StoredArea.{StoredArea}
use Rattle.av1_frame.specs.Areas.{VisibleArea}
use Rattle.av1_frame.specs.Planes.{sample_at}
use Rattle.av1_frame.specs.Samples.{paint}
use Rattle.av1_intra.specs.ChromaFromLuma.{ac_at}
use Rattle.av1_plan.specs.declared.header.Header.{Header}
use Rattle.av1_plan.specs.Geometry.{shown_columns, shown_rows}
use Rattle.av1_plan.specs.Plan.{PlanValue}
use Rattle.av1_tile.specs.declared.plane_block.PlaneBlock.{PlaneBlock}
use Rattle.av1_tile.specs.declared.planes.Planes.{Planes}
use Rattle.av1_tile.specs.declared.predicted.PredictedPlanes.{PredictedPlanes}
use Rattle.av1_tile.specs.Canvas.{Component, Y, U, V, Written, Canvas, blank, drawn, with_written}
use Rattle.av1_tile.specs.Edge.{sample_of}
use Rattle.av1_tile.specs.Output.{by_rows, visible}
use Rattle.av1_tile.specs.PlaneBlocks.{component, number, shown_of}
use Rattle.av1_tile.specs.Reference.{Scene, predicted, scene, slow_step}
use Rattle.av1_tile.specs.SampleRows.{SampleRows}
use Rattle.av1_tile.specs.Steps.{Step, predict, add, PlaneStep, steps}
use Rattle.av1_tile.specs.Walk.{edges_in, fast_in, fast_step, plane_of, with_header}

-- ---- the definition

-- what has been written so far, and what has been predicted
pub record Progress : Type 0 where
  pub canvas : Canvas
  pub predictions : Canvas

-- the predictions of a plane after a step: a Predict step draws what it predicts, an Add step changes nothing
unfoldable pub predictions_in : Scene → Canvas → Component → Step → Written → Written
predictions_in scene canvas component (predict block n a) before =
    drawn a (λ r c _. Some (predicted scene canvas component block a r c)) before
predictions_in scene canvas component (add block triples n a) before = before

-- both canvases after a step
unfoldable pub slow_progress : Scene → Progress → PlaneStep → Progress
slow_progress scene p s = record {
  canvas = slow_step scene p.canvas s;
  predictions = with_written s.component (predictions_in scene p.canvas s.component s.step (p.predictions s.component))
      p.predictions;
}

-- nothing is written, and nothing predicted
abbrev pub no_progress : Progress
no_progress = record { canvas = blank; predictions = blank }

-- the predictions after all steps of a plan
unfoldable pub slow_predictions : PlanValue → Canvas
slow_predictions plan = (fold (slow_progress (scene plan)) no_progress (steps plan.header plan.leaves)).predictions

-- the bytes of the predictions of the shown part of the planes
unfoldable pub predictions_of : PlanValue → List ℕ
predictions_of plan = visible plan.header (λ component x y. sample_of (slow_predictions plan component x y))

-- ---- the predictions that the walk keeps

-- the kept predictions of a plane; then all of them, with others in place of that plane's
abbrev pub rows_in : {T : Type 0} → Component → PredictedPlanes T → SampleRows T
rows_in Y kept = kept.y
rows_in U kept = kept.u
rows_in V kept = kept.v

abbrev pub with_rows : {T : Type 0} → Component → PredictedPlanes T → SampleRows T → PredictedPlanes T
with_rows Y kept rows = record kept { y = rows }
with_rows U kept rows = record kept { u = rows }
with_rows V kept rows = record kept { v = rows }

-- a rectangle of visible samples, in a buffer that has only the rows of visible samples
abbrev pub stored_in : VisibleArea → StoredArea
stored_in a = record { x = a.x; y = a.y; width = a.width; height = a.height }

-- rows of visible samples, after the rectangle a of a plane is copied into them
abbrev pub copied : {T : Type 0} → (T → ℕ) → (ℕ → T) → Plane T → StoredArea → SampleRows T → SampleRows T
copied num pixel plane a rows = record {
  width = rows.width;
  samples = paint rows.width a (λ r c _. pixel (sample_at num plane (a.x + c) (a.y + r))) rows.samples;
}

-- the kept predictions after a step that has left plane p as `plane`: a Predict step copies its rectangle, an Add step
-- nothing
unfoldable pub kept_in : {T : Type 0} → (T → ℕ) → (ℕ → T) → (p : ℕ) → Plane T → PredictedPlanes T → Step →
    PredictedPlanes T
kept_in num pixel p plane kept (predict block n a) =
    with_rows (component p) kept (copied num pixel plane (stored_in a) (rows_in (component p) kept))
kept_in num pixel p plane kept (add block triples n a) = kept

-- what the walk has apart from the planes: the predictions that it keeps, and the number of edges that it has prepared
pub record Gathered (T : Type 0) : Type 0 where
  pub predictions : PredictedPlanes T
  pub edges : ℕ

abbrev pub gathered : {T : Type 0} → PredictedPlanes T → ℕ → Gathered T
gathered predictions edges = record { predictions = predictions; edges = edges }

-- both after a step that has left plane p as `plane`
abbrev pub gathered_in : {T : Type 0} → (T → ℕ) → (ℕ → T) → (p : ℕ) → Plane T → Gathered T → Step → Gathered T
gathered_in num pixel p plane b step =
    gathered (kept_in num pixel p plane b.predictions step) (edges_in b.edges step)

-- a plane, or all three, with what was gathered
abbrev pub Keeping : (X T : Type 0) → Type 0
Keeping X T = X × Gathered T

-- both after a step in plane p of a scene
unfoldable pub keeping_in : {T : Type 0} → (T → ℕ) → (ℕ → T) → Scene → (p : ℕ) →
    (luma : PlaneBlock → ℕ → ℕ → ℤ) → Keeping (Plane T) T → Step → Keeping (Plane T) T
keeping_in num pixel scene p luma s step =
    let plane = fast_in num pixel scene p luma s.0 step in (plane, gathered_in num pixel p plane s.1 step)

-- `after` is the result of these steps of a block, in any scene with this header. `luma` holds the distance of luma
-- from its mean, row by row.
abbrev pub WalksKeeping : {T : Type 0} → (T → ℕ) → (ℕ → T) → Header → PlaneBlock → (luma : List ℤ) → List Step →
    (before after : Keeping (Plane T) T) → Type 0
WalksKeeping num pixel h block luma steps before after =
    (value : Scene) →
    after ≡
    fold (keeping_in num pixel (with_header h value) block.plane (λ _. ac_at (tx_width block.area.tx_size) luma))
    before steps

-- both after a step in any plane
unfoldable pub keeping_step : {T : Type 0} → (T → ℕ) → (ℕ → T) → Scene → Keeping (Planes T) T → PlaneStep →
    Keeping (Planes T) T
keeping_step num pixel scene s step =
    let planes = fast_step num pixel scene s.0 step in
    (planes, gathered_in num pixel (number step.component) (plane_of step.component planes) s.1 step.step)

-- ---- what callers see of the predictions

-- zeros for each shown sample of a plane, and then of all three planes
abbrev pub no_rows : {T : Type 0} → (ℕ → T) → Header → (p : ℕ) → SampleRows T
no_rows pixel h p =
    record { width = shown_columns h p; samples = replicate (shown_rows h p * shown_columns h p) (pixel 0) }

pub record AreBlank {T : Type 0} (pixel : ℕ → T) (h : Header) (kept : PredictedPlanes T) : Type 0 where
  pub y : kept.y ≡ no_rows pixel h 0
  pub u : kept.u ≡ no_rows pixel h 1
  pub v : kept.v ≡ no_rows pixel h 2

-- the kept predictions of each plane are those of a plan, row by row
abbrev pub ShowsPredictions : {T : Type 0} → (T → ℕ) → PlanValue → PredictedPlanes T → Type 0
ShowsPredictions num plan kept =
    (k : Component) → map num (rows_in k kept).samples ≡
    by_rows (shown_of plan.header (number k)) (λ x y. sample_of (slow_predictions plan k x y))
