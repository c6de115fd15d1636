-- The faults of bytes that hold plans as parts: their statuses, and what the caller learns about each.
use Rattle.std.specs.Prelude.{ℕ}
use Rattle.av1_recon.specs.declared.error.PlanFault.{PlanFault}
use Rattle.av1_recon.specs.declared.error.PlanFault.TheVariants as refusals
use Rattle.av1_sequence.specs.declared.error.FrameFault.{FrameFault}
use Rattle.av1_sequence.specs.declared.error.FrameFault.TheVariants as frames
use Rattle.av1_sequence.specs.declared.error.SequenceError.{SequenceError}
use Rattle.av1_sequence.specs.declared.error.SequenceError.TheVariants as sequence
use Rattle.av1_tiles.specs.declared.error.TilesError.{TilesError}
use Rattle.av1_tiles.specs.declared.error.TilesError.TheVariants as tiles
use Rattle.av1_calls.specs.declared.status.TheConstants.{ROOM_TOO_SMALL}
use Rattle.av1_c.specs.Faults.{kind_number}
use Rattle.av1_c.specs.declared.part_fault.PartFault.{PartFault}
use Rattle.av1_c.specs.declared.part_fault.PartFault.TheVariants.{Memory, RoomTooSmall, TooLong, Malformed, TooLongPart}
use Rattle.av1_c.specs.declared.part_fault.PartFault.TheVariants.{MalformedPart, InvalidPart, EmptySlot}
use Rattle.av1_c.specs.declared.part_fault.PartRefusal.{PartRefusal}
use Rattle.av1_c.specs.declared.status.TheConstants.{OUT_OF_MEMORY, TOO_LONG, MALFORMED}
use Rattle.av1_c.specs.declared.status.TheConstants.{TOO_LONG_PART, MALFORMED_PART, INVALID_PART, EMPTY_SLOT}

-- the fault of a part that is a plan, or the leaves of one
abbrev pub in_part : ℕ → PlanFault → PartFault
in_part part (refusals.Malformed at) = MalformedPart part at
in_part part (refusals.Invalid leaf kind) = InvalidPart part leaf kind

-- the fault of a part that is a frame of a sequence
abbrev pub frame_fault : ℕ → FrameFault → PartFault
frame_fault part frames.TooLarge = TooLongPart part
frame_fault part (frames.Malformed at) = MalformedPart part at
frame_fault part (frames.Invalid leaf kind) = InvalidPart part leaf kind

-- the fault of an error of a grid of tiles
abbrev pub tiles_fault : TilesError → PartFault
tiles_fault tiles.ReadFault = Memory
tiles_fault tiles.TooLong = TooLong
tiles_fault (tiles.Malformed at) = Malformed at
tiles_fault (tiles.Tile tile fault) = in_part tile fault
tiles_fault tiles.WriteFault = Memory
tiles_fault tiles.Memory = Memory

-- the fault of an error of a sequence
abbrev pub sequence_fault : SequenceError → PartFault
sequence_fault sequence.ReadFault = Memory
sequence_fault sequence.TooLong = TooLong
sequence_fault (sequence.Malformed at) = Malformed at
sequence_fault (sequence.Frame frame fault) = frame_fault frame fault
sequence_fault (sequence.EmptySlot frame) = EmptySlot frame
sequence_fault sequence.WriteFault = Memory
sequence_fault sequence.Memory = Memory

-- the status of a call with this fault
abbrev pub part_status : PartFault → ℕ
part_status Memory = OUT_OF_MEMORY
part_status (RoomTooSmall len) = ROOM_TOO_SMALL
part_status TooLong = TOO_LONG
part_status (Malformed at) = MALFORMED
part_status (TooLongPart part) = TOO_LONG_PART
part_status (MalformedPart part at) = MALFORMED_PART
part_status (InvalidPart part leaf kind) = INVALID_PART
part_status (EmptySlot part) = EMPTY_SLOT

-- the length after a call with this fault, if it was `before` before the call
abbrev pub length_told : PartFault → ℕ → ℕ
length_told (RoomTooSmall len) before = len
length_told _ before = before

-- the refusal for a bad field, of a part or of all bytes
abbrev pub field_of : (part at : ℕ) → PartRefusal
field_of part at = record { part = part; at = at; leaf = 0; kind = 0 }

-- the refusal after a call with this fault, if it was `before` before the call
abbrev pub part_told : PartFault → PartRefusal → PartRefusal
part_told Memory before = before
part_told (RoomTooSmall len) before = before
part_told TooLong before = before
part_told (Malformed at) before = field_of 0 at
part_told (TooLongPart part) before = field_of part 0
part_told (MalformedPart part at) before = field_of part at
part_told (InvalidPart part leaf kind) before = record { part = part; at = 0; leaf = leaf; kind = kind_number kind }
part_told (EmptySlot part) before = field_of part 0
