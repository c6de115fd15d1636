-- The bytes of planes that show a plan are those of the definition.
use Rattle.std.proofs.Common.{ℕ, ◌≡◌, ap, subst, sym, ◌∙◌}
use Rattle.av1_plan.specs.declared.header.Header.{Header}
use Rattle.av1_plan.specs.Plan.{PlanValue}
use Rattle.av1_tile.specs.declared.planes.Planes.{Planes}
use Rattle.av1_tile.specs.Edge.{sample_of}
use Rattle.av1_tile.specs.Memory.{ShowsPlan}
use Rattle.av1_tile.specs.Output.{planes_of, visible}
use Rattle.av1_tile.specs.Reference.{slow_walk}
use Rattle.av1_tile.specs.Walk.{AreFrame, StoresAll, samples_of}
use Rattle.av1_tile.proofs.Simulation.{visible_same}

-- planes that store a frame are planes of it
pub stored_frame : {T : Type 0} (num : T → ℕ) (h own : Header) (planes : Planes T) → h ≡ own → StoresAll num own planes → AreFrame h planes
stored_frame num h own planes same stores =
    subst (λ (k : Header). AreFrame k planes) (sym same) (record { y = stores.y.place; u = stores.u.place; v = stores.v.place })

pub shown_are : {T : Type 0} (num : T → ℕ) (plan : PlanValue) (planes : Planes T) (h : Header) → h ≡ plan.header → ShowsPlan num plan planes →
    visible h (samples_of num planes) ≡ planes_of plan
unfolding planes_of
shown_are num plan planes h same shows =
    ap (λ (k : Header). visible k (samples_of num planes)) same
    ∙ visible_same plan.header (samples_of num planes) (λ k x y. sample_of (slow_walk plan k x y)) shows
