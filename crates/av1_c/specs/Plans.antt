-- Definitions for the contracts of the calls on plans: the bytes, the caller's buffer and the status.
use Rattle.std.specs.Prelude.{◌≡◌, ℕ, ◌<◌, ◌≤◌, nat_le, if◌then◌else◌, List, ◌++◌, length, drop, Ok, Err, ⊤}
use Rattle.av1_plan.specs.Grammar.{header}
use Rattle.av1_plan.specs.Spelling.{IsPrefix, Spells, text}
use Rattle.av1_plan.specs.declared.header.Header.{Header}
use Rattle.av1_recon.specs.Outcomes.{HasOutcome, Outcome}
use Rattle.av1_recon.specs.declared.error.ReconError.TheVariants as errors
use Rattle.av1_streams.specs.Streams.{max_plan_bytes}
use Rattle.av1_c.specs.declared.fault.PlanCallFault.{PlanCallFault}
use Rattle.av1_c.specs.declared.fault.PlanCallFault.TheVariants.{Memory, RoomTooSmall, TooLong, Malformed, Invalid}
use Rattle.av1_calls.specs.declared.status.TheConstants.{DONE, ROOM_TOO_SMALL}
use Rattle.av1_c.specs.declared.status.TheConstants.{OUT_OF_MEMORY, TOO_LONG, MALFORMED, INVALID}

-- ---- what the bytes are

-- the bytes begin with the fields of this header
abbrev pub BeginWith : List ℕ → Header → Type 0
BeginWith bytes h = (values : List ℕ) × Spells header values h × IsPrefix (text header values) bytes

-- the bytes are a valid plan, and P holds of its planes by the slow definition
abbrev pub ComeToPlanes : List ℕ → (List ℕ → Type 0) → Type 0
ComeToPlanes bytes P = (planes : List ℕ) × HasOutcome bytes (Ok planes) × P planes

-- ---- the buffer

-- The front of the buffer is now these bytes, `count` of them, and the rest of the buffer is unchanged.
pub record AreWritten (bytes room room' : List ℕ) (count : ℕ) : Type 0 where
  pub count_is : count ≡ length bytes
  pub fits : length bytes ≤ length room
  pub front : room' ≡ bytes ++ drop (length bytes) room

-- ---- statuses

-- The status for an outcome, with a buffer of this length. The last three outcomes never occur.
abbrev pub status_for : ℕ → Outcome → ℕ
status_for room (Ok planes) = if nat_le (length planes) room then DONE else ROOM_TOO_SMALL
status_for room (Err errors.TooLong) = TOO_LONG
status_for room (Err (errors.Malformed at)) = MALFORMED
status_for room (Err (errors.Invalid leaf kind)) = INVALID
status_for room (Err errors.ReadFault) = OUT_OF_MEMORY
status_for room (Err errors.WriteFault) = OUT_OF_MEMORY
status_for room (Err errors.Memory) = OUT_OF_MEMORY

-- ---- definitions for private contracts: why nothing is written

-- the bytes, or a buffer of this length, have this fault
abbrev pub IsCause : List ℕ → ℕ → PlanCallFault → Type 0
IsCause bytes room Memory = length bytes ≤ max_plan_bytes
IsCause bytes room (RoomTooSmall len) =
    ComeToPlanes bytes (λ planes. (room < length planes) × (len ≡ length planes))
IsCause bytes room TooLong = HasOutcome bytes (Err errors.TooLong)
IsCause bytes room (Malformed at) = HasOutcome bytes (Err (errors.Malformed at))
IsCause bytes room (Invalid leaf kind) = HasOutcome bytes (Err (errors.Invalid leaf kind))

-- the header at the front of the bytes has this fault
abbrev pub IsHeaderFault : List ℕ → PlanCallFault → Type 0
IsHeaderFault bytes Memory = ⊥
IsHeaderFault bytes (RoomTooSmall len) = ⊥
IsHeaderFault bytes TooLong = HasOutcome bytes (Err errors.TooLong)
IsHeaderFault bytes (Malformed at) = HasOutcome bytes (Err (errors.Malformed at))
IsHeaderFault bytes (Invalid leaf kind) = ⊥

-- the write of `count` bytes to a buffer of this length has this fault
abbrev pub IsWritingFault : ℕ → ℕ → PlanCallFault → Type 0
IsWritingFault count room Memory = ⊤
IsWritingFault count room (RoomTooSmall len) = (room < count) × (len ≡ count)
IsWritingFault count room TooLong = ⊥
IsWritingFault count room (Malformed at) = ⊥
IsWritingFault count room (Invalid leaf kind) = ⊥
