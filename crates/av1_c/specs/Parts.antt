-- The contract of the calls on bytes that hold plans as parts.
use Rattle.std.specs.Prelude.{◌≡◌, ◌≢◌, ◌⊎◌, ℕ, ◌<◌, nat_le, if◌then◌else◌, List, length, Result, Ok, Err, ⊤}
use Rattle.av1_calls.specs.declared.status.TheConstants.{DONE, ROOM_TOO_SMALL}
use Rattle.av1_c.specs.PartFaults.{part_status, part_told}
use Rattle.av1_c.specs.Plans.{AreWritten}
use Rattle.av1_c.specs.declared.part_fault.PartFault.{PartFault}
use Rattle.av1_c.specs.declared.part_fault.PartFault.TheVariants.{Memory, RoomTooSmall, TooLong, Malformed, TooLongPart}
use Rattle.av1_c.specs.declared.part_fault.PartFault.TheVariants.{MalformedPart, InvalidPart, EmptySlot}
use Rattle.av1_c.specs.declared.part_fault.PartRefusal.{PartRefusal}
use Rattle.av1_c.specs.declared.status.TheConstants.{OUT_OF_MEMORY}

-- the outcome of the bytes: planes, or why the bytes are rejected
abbrev pub PartsOutcome : Type 0
PartsOutcome = Result (List ℕ) PartFault

-- ---- the contracts

-- the status for an outcome, with a buffer of this length
abbrev pub status_of_parts : ℕ → PartsOutcome → ℕ
status_of_parts room (Ok planes) = if nat_le (length planes) room then DONE else ROOM_TOO_SMALL
status_of_parts room (Err fault) = part_status fault

-- The call writes planes to the front of a buffer. Without a prime a name is the value before the call, with a prime
-- after it. `status` is the result.
pub record PutsPlanes (ComesTo : PartsOutcome → Type 0) (room room' : List ℕ) (written written' : ℕ)
    (refusal refusal' : PartRefusal) (status : ℕ) : Type 0 where
  -- The front of the buffer is the planes, and the rest of the buffer is unchanged.
  pub done : status ≡ DONE → (planes : List ℕ) × ComesTo (Ok planes) × AreWritten planes room room' written'
  -- The planes are longer than the buffer, and the call gives their length.
  pub small : status ≡ ROOM_TOO_SMALL → (planes : List ℕ) × ComesTo (Ok planes) × (length room < length planes)
      × (written' ≡ length planes)
  -- Each other status, except out of memory, says that the bytes are rejected, and why.
  pub refused : status ≢ DONE → status ≢ ROOM_TOO_SMALL → status ≢ OUT_OF_MEMORY
      → (fault : PartFault) × ComesTo (Err fault) × (status ≡ part_status fault) × (refusal' ≡ part_told fault refusal)
  -- The bytes and the length of the buffer decide the status, unless memory runs out.
  pub exactly : (outcome : PartsOutcome) → ComesTo outcome
      → (status ≡ status_of_parts (length room) outcome) ⊎ (status ≡ OUT_OF_MEMORY)
  -- What the call does not set is unchanged.
  pub kept : status ≢ DONE → room' ≡ room
  pub uncounted : status ≢ DONE → status ≢ ROOM_TOO_SMALL → written' ≡ written
  pub untold : (status ≡ DONE) ⊎ ((status ≡ ROOM_TOO_SMALL) ⊎ (status ≡ OUT_OF_MEMORY)) → refusal' ≡ refusal

-- ---- a definition for private contracts: why nothing is written

-- the bytes, or a buffer of this length, have this fault
abbrev pub IsPartCause : (PartsOutcome → Type 0) → ℕ → PartFault → Type 0
IsPartCause ComesTo room Memory = ⊤
IsPartCause ComesTo room (RoomTooSmall len) =
    (planes : List ℕ) × ComesTo (Ok planes) × (room < length planes) × (len ≡ length planes)
IsPartCause ComesTo room TooLong = ComesTo (Err TooLong)
IsPartCause ComesTo room (Malformed at) = ComesTo (Err (Malformed at))
IsPartCause ComesTo room (TooLongPart part) = ComesTo (Err (TooLongPart part))
IsPartCause ComesTo room (MalformedPart part at) = ComesTo (Err (MalformedPart part at))
IsPartCause ComesTo room (InvalidPart part leaf kind) = ComesTo (Err (InvalidPart part leaf kind))
IsPartCause ComesTo room (EmptySlot part) = ComesTo (Err (EmptySlot part))
