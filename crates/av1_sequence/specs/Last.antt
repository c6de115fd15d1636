-- The frame that was accepted last, wherever it is kept.
use Rattle.std.specs.Prelude.{ℕ, Option, None, option_map}
use Rattle.av1_frame.specs.declared.frame_invariants.FrameInvariants.{FrameInvariants}
use Rattle.av1_plan.specs.declared.header.Header.{Header}
use Rattle.av1_tile.specs.declared.planes.Planes.{Planes}
use Rattle.av1_sequence.specs.declared.last.Last.{Last}
use Rattle.av1_sequence.specs.declared.last.Last.TheVariants as lasts
use Rattle.av1_sequence.specs.Kept.{planes_shown, shown_at}
use Rattle.av1_sequence.specs.Slots.{Frame}

abbrev pub last_shown : {T : Type 0} → (T → ℕ) → Header → FrameInvariants T → (apart : Option (Planes T)) → Last →
    Option Frame
last_shown num h fi apart lasts.Nowhere = None
last_shown num h fi apart lasts.Apart = option_map (λ planes. planes_shown num h planes.y planes.u planes.v) apart
last_shown num h fi apart (lasts.At place) = shown_at num h fi place
