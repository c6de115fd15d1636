-- The bytes of predictions that were kept are those of the definition.
use Rattle.std.proofs.Common.{ℕ, ◌≡◌, List, ◌++◌, map, ap, ◌∙◌}
use Rattle.std.specs.List.{flat_map}
use Rattle.av1_plan.specs.Plan.{PlanValue}
use Rattle.av1_recon.specs.Predictions.{kept_bytes}
use Rattle.av1_tile.specs.declared.predicted.PredictedPlanes.{PredictedPlanes}
use Rattle.av1_tile.specs.Canvas.{Component, Y, U, V}
use Rattle.av1_tile.specs.Edge.{sample_of}
use Rattle.av1_tile.specs.Output.{by_rows, sample_bytes, visible}
use Rattle.av1_tile.specs.PlaneBlocks.{number, shown_of}
use Rattle.av1_tile.specs.Predicted.{ShowsPredictions, predictions_of, slow_predictions}

-- the samples of each plane, where they are told by their lists
pub kept_rows : {T : Type 0} (num : T → ℕ) (depth : ℕ) (kept : PredictedPlanes T) (y u v : List T) → y ≡ kept.y.samples → u ≡ kept.u.samples →
    v ≡ kept.v.samples
    → flat_map (sample_bytes depth) (map num y) ++ flat_map (sample_bytes depth) (map num u) ++ flat_map (sample_bytes depth) (map num v) ≡
    kept_bytes depth num kept
kept_rows num depth kept y u v e f h =
    let bytes : List _ → List ℕ = λ s. flat_map (sample_bytes depth) (map num s) in
    ap (λ (s : List _). bytes s ++ bytes u ++ bytes v) e ∙ ap (λ (s : List _). bytes kept.y.samples ++ bytes s ++ bytes v) f
    ∙ ap (λ (s : List _). bytes kept.y.samples ++ bytes kept.u.samples ++ bytes s) h

pub kept_are : {T : Type 0} (num : T → ℕ) (plan : PlanValue) (kept : PredictedPlanes T) (depth : ℕ) → depth ≡ plan.header.depth → ShowsPredictions num plan kept
    → kept_bytes depth num kept ≡ predictions_of plan
unfolding predictions_of visible
kept_are num plan kept depth deep shows =
    let bytes : List ℕ → List ℕ = flat_map (sample_bytes plan.header.depth) in
    let rows : Component → List ℕ = λ k. by_rows (shown_of plan.header (number k)) (λ x y. sample_of (slow_predictions plan k x y)) in
    let y = map num kept.y.samples in
    let u = map num kept.u.samples in
    let v = map num kept.v.samples in
    ap (λ (d : ℕ). flat_map (sample_bytes d) y ++ flat_map (sample_bytes d) u ++ flat_map (sample_bytes d) v) deep
    ∙ ap (λ (l : List ℕ). bytes l ++ bytes u ++ bytes v) (shows Y) ∙ ap (λ (l : List ℕ). bytes (rows Y) ++ bytes l ++ bytes v) (shows U)
    ∙ ap (λ (l : List ℕ). bytes (rows Y) ++ bytes (rows U) ++ bytes l) (shows V)
