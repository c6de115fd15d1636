-- The residual of a plan: how much its Add steps change each sample after the sample is predicted.
-- AV1 specification: reconstruction process.
use Rattle.std.specs.Prelude.{◌≡◌, ℕ, ℤ, pos, ◌+ℤ◌, ◌-ℤ◌, if◌then◌else◌}
use Rattle.std.specs.List.{fold}
use Rattle.av1_frame.specs.Areas.{in_visible}
use Rattle.av1_plan.specs.Plan.{PlanValue}
use Rattle.av1_tile.specs.Canvas.{Component, Written, Canvas, blank, is_same}
use Rattle.av1_tile.specs.Edge.{sample_of}
use Rattle.av1_tile.specs.Predicted.{slow_predictions}
use Rattle.av1_tile.specs.Reference.{Scene, scene, slow_step, slow_walk}
use Rattle.av1_tile.specs.Steps.{Step, predict, add, PlaneStep, steps}

-- what has been written so far, and how much Add steps have changed each sample since it was predicted
pub record Adding : Type 0 where
  pub canvas : Canvas
  pub residue : Component → ℕ → ℕ → ℤ

-- the residual of a plane after a step that turns `before` into `after`: a Predict step sets it to 0 in its rectangle,
-- and an Add step adds the change of each sample
unfoldable pub residue_in : (before after : Written) → Step → (ℕ → ℕ → ℤ) → ℕ → ℕ → ℤ
residue_in before after (predict block n a) z x y = if in_visible a x y then pos 0 else z x y
residue_in before after (add block triples n a) z x y =
    z x y +ℤ (pos (sample_of (after x y)) -ℤ pos (sample_of (before x y)))

-- both after a step
unfoldable pub slow_adding : Scene → Adding → PlaneStep → Adding
slow_adding scene p s =
    let after = slow_step scene p.canvas s in
    record {
      canvas = after;
      residue = λ k x y. if is_same k s.component then residue_in (p.canvas k) (after k) s.step (p.residue k) x y
          else p.residue k x y;
    }

-- nothing is written, and nothing added
abbrev pub nothing_added : Adding
nothing_added = record { canvas = blank; residue = λ k x y. pos 0 }

-- how much the Add steps of a plan change each sample
unfoldable pub slow_residue : PlanValue → Component → ℕ → ℕ → ℤ
slow_residue plan = (fold (slow_adding (scene plan)) nothing_added (steps plan.header plan.leaves)).residue

-- Each sample is the sum of its prediction and its residual.
abbrev pub SamplesAreSums : Type 0
SamplesAreSums = (plan : PlanValue) (k : Component) (x y : ℕ) →
    pos (sample_of (slow_walk plan k x y)) ≡ pos (sample_of (slow_predictions plan k x y)) +ℤ slow_residue plan k x y
