-- States of plans in the making.
use Rattle.std.proofs.Common.{◌≡◌, ◌≤◌, true, refl}
use Rattle.std.proofs.lemmas.Bool.{le-leb}
use Rattle.av1_plan.specs.declared.header.Header.{Header}
use Rattle.av1_plan.specs.Walk.{is_stopped}
use Rattle.av1_planwrite.specs.declared.state.State.{State}
use Rattle.av1_planwrite.specs.Building.{admits_header}
use Rattle.av1_planwrite.specs.States.{is_state}

-- a state in which a walk stops
pub state_is : (h : Header) (s : State) → admits_header h ≡ true → s.slot ≤ 8 → is_stopped h s.parts s.left ≡ true → is_state h s ≡ true
unfolding is_state
state_is h s admitted slot stopped = rw (admitted, le-leb s.slot 8 slot, stopped) refl
