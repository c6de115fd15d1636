-- What pages show.
use Rattle.std.specs.Prelude.{ℕ, ◌*◌, List, []}
use Rattle.av1_plan.specs.declared.header.Header.{Header}
use Rattle.av1_plan.specs.Plan.{PlanValue}
use Rattle.av1_planwrite.specs.Text.{plan_text}
use Rattle.av1_tile.specs.Output.{planes_of}
use Rattle.av1_tile.specs.Predicted.{predictions_of}
use Rattle.av1_trace.specs.Samples.{sample_len}
use Rattle.av1_view.specs.Packed.{packed}
use Rattle.av1_view.specs.Page.{page}

-- the length of a luma row in bytes
abbrev pub row_len : Header → ℕ
row_len header = sample_len header.depth * header.width

-- the predictions by the Predict steps of a plan, packed as differences from the plan's planes
unfoldable pub packed_predictions : PlanValue → List ℕ
packed_predictions plan = packed (row_len plan.header) (planes_of plan) (predictions_of plan)

-- The page of a plan and of its planes from another encoder: the plan's bytes, its planes, its predictions, and the
-- given planes.
unfoldable pub trace_page : PlanValue → List ℕ → List ℕ
trace_page plan given = page (plan_text plan) (planes_of plan) (packed_predictions plan) given

-- the page of a plan without given planes
abbrev pub plan_page : PlanValue → List ℕ
plan_page plan = trace_page plan []
