-- The statuses of a builder's calls.
use Rattle.std.specs.Prelude.{ℕ, Bool, true, false, nat_le, if◌then◌else◌, Option, Some, None, Result, Ok, Err}
use Rattle.av1_planwrite.specs.declared.error.BuildError.{BuildError}
use Rattle.av1_planwrite.specs.declared.error.BuildError.TheVariants as errors
use Rattle.av1_c.specs.declared.build_fault.BuildFault.{BuildFault}
use Rattle.av1_c.specs.declared.build_fault.BuildFault.TheVariants.{BadState, Refused, RoomTooSmall}
use Rattle.av1_calls.specs.declared.status.TheConstants.{DONE, ROOM_TOO_SMALL}
use Rattle.av1_c.specs.declared.status.TheConstants.{OUT_OF_MEMORY, TOO_LONG, NOT_NOW, NOT_ADMITTED, BAD_STATE}

-- the status of a call that the plan so far rejects
abbrev pub refusal_status : BuildError → ℕ
refusal_status errors.NotNow = NOT_NOW
refusal_status errors.NotAdmitted = NOT_ADMITTED
refusal_status errors.TooLong = TOO_LONG
refusal_status errors.Memory = OUT_OF_MEMORY

-- the status of a call that fails for this reason
abbrev pub build_status : BuildFault → ℕ
build_status BadState = BAD_STATE
build_status (Refused e) = refusal_status e
build_status RoomTooSmall = ROOM_TOO_SMALL

-- the status of a call with this result
abbrev pub answered : {X : Type 0} → Result X BuildFault → ℕ
answered (Ok x) = DONE
answered (Err fault) = build_status fault

-- The status of a builder's call. `valid` says whether the caller's numbers are a valid builder, and `refusal` why the
-- plan so far rejects the call. The plan would then have `len` bytes, and the buffer has `room` bytes.
abbrev pub asked_status : (valid : Bool) → Option BuildError → (len room : ℕ) → ℕ
asked_status false refusal len room = BAD_STATE
asked_status true (Some e) len room = refusal_status e
asked_status true None len room = if nat_le len room then DONE else ROOM_TOO_SMALL
