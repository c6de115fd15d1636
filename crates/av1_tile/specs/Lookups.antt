-- At each of its steps and at its end, the slow walk looks up only samples that were written before. So no missing
-- sample counts as 0.
use Rattle.std.specs.Prelude.{◌≡◌, ℕ, suc, ◌+◌, ◌-◌, ◌<◌, ◌&&◌, ◌||◌, Bool, true, nat_lt, min, None, List, ◌∷◌}
use Rattle.std.specs.Prelude.{◌++◌, is_some}
use Rattle.std.specs.List.{fold}
use Rattle.av1_frame.specs.Areas.{VisibleArea, in_visible}
use Rattle.av1_intra.specs.ChromaFromLuma.{chroma_block, columns_read, rows_read, first_luma_column, first_luma_row}
use Rattle.av1_plan.specs.declared.header.Header.{Header}
use Rattle.av1_plan.specs.Geometry.{plane_height, plane_width}
use Rattle.av1_plan.specs.Grammar.{plan as grammar}
use Rattle.av1_plan.specs.Plan.{PlanValue}
use Rattle.av1_plan.specs.Spelling.{IsSpelled}
use Rattle.av1_plan.specs.Validity.{first_fault}
use Rattle.av1_tile.specs.declared.extent.PlaneExtent.{PlaneExtent}
use Rattle.av1_tile.specs.declared.plane_block.LumaBlock.{LumaBlock}
use Rattle.av1_tile.specs.declared.plane_block.PlaneBlock.{PlaneBlock}
use Rattle.av1_tile.specs.declared.plane_block.Prediction.{Prediction}
use Rattle.av1_tile.specs.declared.plane_block.Prediction.TheVariants as predictions
use Rattle.av1_tile.specs.Canvas.{Component, Y, Canvas, Written, blank}
use Rattle.av1_tile.specs.Edge.{known_above, known_left}
use Rattle.av1_tile.specs.PlaneBlocks.{number, extent_of}
use Rattle.av1_tile.specs.Reference.{luma_of, scene, slow_step, slow_walk}
use Rattle.av1_tile.specs.Steps.{Step, predict, add, PlaneStep, steps}
use Rattle.av1_tile.specs.Walk.{answer_right, answer_low, has_edge}

-- the sample at column x of row y has been written
abbrev pub IsThere : Written → (x y : ℕ) → Type 0
IsThere written x y = is_some (written x y) ≡ true

-- The samples that the edge of a block looks up without a test whether they were written: the first one above (unless
-- the block is in row 0), the first one to the left (unless it is in column 0), and their corner. In row 0 the sample
-- to the left replaces the samples above. In column 0 the sample above replaces the samples to the left.
pub record EdgeIsThere (written : Written) (a : VisibleArea) : Type 0 where
  pub above : (y : ℕ) → a.y ≡ suc y → IsThere written a.x y
  pub left : (x : ℕ) → a.x ≡ suc x → IsThere written x a.y
  pub corner : (x y : ℕ) → a.x ≡ suc x → a.y ≡ suc y → IsThere written x y

-- the luma samples that a leaf's chroma is predicted from were written
abbrev pub LumaIsThere : Header → Written → LumaBlock → Type 0
LumaIsThere h written leaf =
    (x y : ℕ) → x < columns_read (chroma_block (luma_of h leaf)) → y < rows_read (chroma_block (luma_of h leaf)) →
    IsThere written (first_luma_column (luma_of h leaf) + x) (first_luma_row (luma_of h leaf) + y)

-- the samples that a prediction looks up were written
abbrev pub PredictionFinds : Header → Canvas → Component → PlaneBlock → VisibleArea → Prediction → Type 0
PredictionFinds h canvas k block a (predictions.Intra mode step filter) = EdgeIsThere (canvas k) a
PredictionFinds h canvas k block a (predictions.FromLuma alpha) =
    EdgeIsThere (canvas k) a × LumaIsThere h (canvas Y) block.leaf
PredictionFinds h canvas k block a (predictions.Inter motion) = Unit {0}
PredictionFinds h canvas k block a (predictions.Parts parts) = Unit {0}

-- the samples that a step looks up were written: those of its prediction, or each sample that it adds to
abbrev pub StepFinds : Header → Canvas → Component → Step → Type 0
StepFinds h canvas k (predict block n a) = PredictionFinds h canvas k block a block.prediction
StepFinds h canvas k (add block triples n a) = (x y : ℕ) → in_visible a x y ≡ true → IsThere (canvas k) x y

-- P holds at each step of a plan, for the canvas that the steps before it left
abbrev pub AtEachStep : (Header → Canvas → Component → Step → Type 0) → PlanValue → Type 0
AtEachStep P plan =
    (before later : List PlaneStep) (s : PlaneStep) → steps plan.header plan.leaves ≡ before ++ s ∷ later →
    P plan.header (fold (slow_step (scene plan)) blank before) s.component s.step

-- Each step of a valid plan finds the samples that it looks up.
abbrev pub StepsFindSamples : Type 0
StepsFindSamples = (plan : PlanValue) → IsSpelled grammar plan → first_fault plan ≡ None → AtEachStep StepFinds plan

-- At the end each coded sample was written.
abbrev pub OutputIsThere : Type 0
OutputIsThere =
    (plan : PlanValue) → IsSpelled grammar plan → first_fault plan ≡ None → (k : Component) (x y : ℕ)
    → x < plane_width plan.header (number k) → y < plane_height plan.header (number k) →
    IsThere (slow_walk plan k) x y

-- ---- the other samples of the sides

-- Which samples at the sides of a block were written: exactly the ones that lie in the frame and are next to the
-- block, or past its end if `right` (above) or `low` (to the left) is true.
pub record KnowsSides (extent : PlaneExtent) (written : Written) (a : VisibleArea) (right low : Bool) : Type 0 where
  pub some_columns : 0 < a.width
  pub some_rows : 0 < a.height
  pub begins_x : a.x < extent.width
  pub begins_y : a.y < extent.height
  pub above : (j : ℕ) → j < a.width + min a.width a.height
      → is_some (known_above extent written (a.x + j) a.y) ≡
      (nat_lt 0 a.y && nat_lt (a.x + j) extent.width && (nat_lt j a.width || right))
  pub left : (i : ℕ) → i < a.height + min a.width a.height
      → is_some (known_left extent written a.x (a.y + i)) ≡
      (nat_lt 0 a.x && nat_lt (a.y + i) extent.height && (nat_lt i a.height || low))
  pub corner : 0 < a.x → 0 < a.y → is_some (written (a.x - 1) (a.y - 1)) ≡ true

-- if a step predicts from the samples round a block, exactly those were written that the availability tables name
abbrev pub StepIsAnswered : Header → Canvas → Component → Step → Type 0
StepIsAnswered h canvas k (predict block n a) =
    has_edge block.prediction ≡ true →
    KnowsSides (extent_of h (number k)) (canvas k) a (answer_right h (number k) block n a)
    (answer_low h (number k) block n a)
StepIsAnswered h canvas k (add block triples n a) = Unit {0}

-- At each step of a valid plan the availability tables agree with the samples that were written.
abbrev pub StepsAreAnswered : Type 0
StepsAreAnswered =
    (plan : PlanValue) → IsSpelled grammar plan → first_fault plan ≡ None → AtEachStep StepIsAnswered plan
