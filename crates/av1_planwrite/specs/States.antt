-- The state of an unfinished plan, as plain data.
use Rattle.std.specs.Prelude.{Bool, ◌&&◌, nat_le, []}
use Rattle.av1_plan.specs.declared.header.Header.{Header}
use Rattle.av1_plan.specs.Walk.{is_stopped, stopped_at}
use Rattle.av1_planwrite.specs.declared.state.State.{State}
use Rattle.av1_planwrite.specs.Building.{Building, admits_header}

-- whether a plan of this header may be in this state
unfoldable pub is_state : Header → State → Bool
is_state h s = admits_header h && nat_le s.slot 8 && is_stopped h s.parts s.left

-- a plan of this header in this state, without its bytes
abbrev pub stopped : Header → State → Building
stopped h s = record { header = h; slot = s.slot; parts = stopped_at h s.parts s.left; bytes = [] }
