-- The bytes of the predictions that a walk has kept, and the errors if planes and predictions could not both be
-- written.
use Rattle.std.specs.Prelude.{◌≡◌, ◌⊎◌, ℕ, List, Option, Ok, Err, ◌++◌, map}
use Rattle.std.specs.List.{flat_map}
use Rattle.av1_plan.specs.Plan.{PlanValue}
use Rattle.av1_tile.specs.declared.predicted.PredictedPlanes.{PredictedPlanes}
use Rattle.av1_tile.specs.Output.{planes_of, sample_bytes}
use Rattle.av1_tile.specs.Predicted.{predictions_of}
use Rattle.av1_recon.specs.declared.error.ReconError.{ReconError}
use Rattle.av1_recon.specs.declared.error.ReconError.TheVariants.{WriteFault}
use Rattle.av1_recon.specs.Writing.{Writes}

-- the bytes of the samples of each plane: Y, then U, then V
abbrev pub kept_bytes : {T : Type 0} → (depth : ℕ) → (T → ℕ) → PredictedPlanes T → List ℕ
kept_bytes depth num kept =
    flat_map (sample_bytes depth) (map num kept.y.samples) ++ flat_map (sample_bytes depth) (map num kept.u.samples)
    ++ flat_map (sample_bytes depth) (map num kept.v.samples)

-- What an error says of a call that writes the planes of a plan to one sink, and then its predictions to another.
-- Either writing the planes failed with this error, and the predictions were not begun. Or all planes were written, and
-- a write of the predictions failed.
abbrev pub FailsInTurn : {K : Type 0} → (K → Option (List ℕ)) → (K → ℕ) → PlanValue →
    (planes planes' predictions predictions' : K) → ReconError → Type 0
FailsInTurn taken faults plan planes planes' predictions predictions' e =
    (Writes taken faults planes planes' (planes_of plan) (Err e) × (predictions' ≡ predictions))
    ⊎ (Writes taken faults planes planes' (planes_of plan) (Ok tt)
    × Writes taken faults predictions predictions' (predictions_of plan) (Err e) × (e ≡ WriteFault))
