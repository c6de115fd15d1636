-- Each sample is the sum of its prediction and its residue.
use Rattle.std.proofs.Common.{ℕ, ◌≡◌, Bool, true, false, List, [], ◌∷◌, arith, ℤ, pos, ◌+ℤ◌, Option, Some, if◌then◌else◌}
use Rattle.std.specs.List.{fold}
use Rattle.std.proofs.lemmas.Int.{ints}
use Rattle.av1_frame.specs.Areas.{in_visible}
use Rattle.av1_tile.specs.Canvas.{Component, Y, U, V, Canvas, blank, turned}
use Rattle.av1_tile.specs.Edge.{sample_of}
use Rattle.av1_tile.specs.Predicted.{predictions_in, slow_predictions, slow_progress}
use Rattle.av1_tile.specs.Reference.{Scene, scene, slow_in, slow_step, slow_walk, walk_of}
use Rattle.av1_tile.specs.Residues.{SamplesAreSums, residue_in, slow_adding, slow_residue}
use Rattle.av1_tile.specs.Steps.{Step, predict, add, PlaneStep, steps}

-- each sample so far is the sum
abbrev AreSums : (canvas predictions : Canvas) → (Component → ℕ → ℕ → ℤ) → Type 0
AreSums canvas predictions z = (k : Component) (x y : ℕ) → pos (sample_of (canvas k x y)) ≡ pos (sample_of (predictions k x y)) +ℤ z k x y

drawn_sum : (b : Bool) (f : ℕ) (o p : Option ℕ) (z : ℤ) → pos (sample_of o) ≡ pos (sample_of p) +ℤ z →
    pos (sample_of (turned b (λ _. Some f) o)) ≡ pos (sample_of (turned b (λ _. Some f) p)) +ℤ (if b then pos 0 else z)
drawn_sum true f o p z e = omega (arith, ints)
drawn_sum false f o p z e = e

-- in the plane of a step
own_sum : (plan : Scene) (canvas predictions : Canvas) (z : ℕ → ℕ → ℤ) (j : Component) (step : Step) (x y : ℕ) →
    pos (sample_of (canvas j x y)) ≡ pos (sample_of (predictions j x y)) +ℤ z x y
    → pos (sample_of (slow_in plan canvas j step x y)) ≡
    pos (sample_of (predictions_in plan canvas j step (predictions j) x y)) +ℤ residue_in (canvas j) (slow_in plan canvas j step) step z x y
unfolding slow_in predictions_in residue_in
own_sum plan canvas predictions z j (predict block n a) x y e = drawn_sum (in_visible a x y) _ (canvas j x y) (predictions j x y) (z x y) e
own_sum plan canvas predictions z j (add block triples n a) x y e = omega (arith, ints, e)

-- and in all planes
step_sums : (plan : Scene) (canvas predictions : Canvas) (z : Component → ℕ → ℕ → ℤ) (j : Component) (step : Step) → AreSums canvas predictions z →
    AreSums (slow_step plan canvas (record { component = j; step = step }))
    (slow_progress plan (record { canvas = canvas; predictions = predictions }) (record { component = j; step = step })).predictions
    (slow_adding plan (record { canvas = canvas; residue = z }) (record { component = j; step = step })).residue
unfolding slow_step slow_progress slow_adding
step_sums plan canvas predictions z Y step e Y x y = own_sum plan canvas predictions (z Y) Y step x y (e Y x y)
step_sums plan canvas predictions z U step e U x y = own_sum plan canvas predictions (z U) U step x y (e U x y)
step_sums plan canvas predictions z V step e V x y = own_sum plan canvas predictions (z V) V step x y (e V x y)
step_sums plan canvas predictions z Y step e U x y = e U x y
step_sums plan canvas predictions z Y step e V x y = e V x y
step_sums plan canvas predictions z U step e Y x y = e Y x y
step_sums plan canvas predictions z U step e V x y = e V x y
step_sums plan canvas predictions z V step e Y x y = e Y x y
step_sums plan canvas predictions z V step e U x y = e U x y

all_sums : (plan : Scene) (rest : List PlaneStep) (canvas predictions : Canvas) (z : Component → ℕ → ℕ → ℤ) → AreSums canvas predictions z →
    AreSums (fold (slow_step plan) canvas rest) (fold (slow_progress plan) (record { canvas = canvas; predictions = predictions }) rest).predictions
    (fold (slow_adding plan) (record { canvas = canvas; residue = z }) rest).residue
unfolding slow_progress slow_adding
all_sums plan [] canvas predictions z e = e
all_sums plan (s ∷ rest) canvas predictions z e =
    all_sums plan rest (slow_step plan canvas s) _ _ (step_sums plan canvas predictions z s.component s.step e)

pub samples_are_sums : SamplesAreSums
unfolding slow_walk walk_of slow_predictions slow_residue
samples_are_sums plan = all_sums (scene plan) (steps plan.header plan.leaves) blank blank (λ k x y. pos 0) (λ k x y. omega (arith, ints))
