-- The exit status and the line of each result.
use Rattle.std.specs.Prelude.{ℕ, zero, suc, List, ◌++◌, codes, decimal}
use Rattle.av1_recon.specs.Answers.{malformed_text, invalid_text, refusal_text}
use Rattle.av1_sequence.specs.declared.error.FrameFault.{FrameFault}
use Rattle.av1_sequence.specs.declared.error.FrameFault.TheVariants as frame_faults
use Rattle.av1_sequence.specs.declared.error.SequenceError.{SequenceError}
use Rattle.av1_sequence.specs.declared.error.SequenceError.TheVariants as sequence_errors
use Rattle.av1_tiles.specs.declared.error.TilesError.{TilesError}
use Rattle.av1_tiles.specs.declared.error.TilesError.TheVariants as tiles_errors

-- the line for arguments that are not a tool's name
abbrev pub usage : List ℕ
usage = codes "usage: tools tiles | trace | sequence | bare\n"

-- ---- tiles

abbrev pub tiles_line : TilesError → List ℕ
tiles_line tiles_errors.ReadFault = codes "read fault\n"
tiles_line tiles_errors.TooLong = codes "too long\n"
tiles_line (tiles_errors.Malformed at) = malformed_text at
tiles_line (tiles_errors.Tile tile fault) = codes "tile " ++ decimal tile ++ codes " " ++ refusal_text fault
tiles_line tiles_errors.WriteFault = codes "write fault\n"
tiles_line tiles_errors.Memory = codes "out of memory\n"

-- ---- sequences

abbrev pub frame_fault_text : FrameFault → List ℕ
frame_fault_text frame_faults.TooLarge = codes "too large\n"
frame_fault_text (frame_faults.Malformed at) = malformed_text at
frame_fault_text (frame_faults.Invalid leaf kind) = invalid_text leaf kind

abbrev pub sequence_line : SequenceError → List ℕ
sequence_line sequence_errors.ReadFault = codes "read fault\n"
sequence_line sequence_errors.TooLong = codes "too long\n"
sequence_line (sequence_errors.Malformed at) = malformed_text at
sequence_line (sequence_errors.Frame frame fault) = codes "frame " ++ decimal frame ++ codes " "
    ++ frame_fault_text fault
sequence_line (sequence_errors.EmptySlot frame) = codes "frame " ++ decimal frame ++ codes " empty slot\n"
sequence_line sequence_errors.WriteFault = codes "write fault\n"
sequence_line sequence_errors.Memory = codes "out of memory\n"

-- ---- traces

-- the exit status without differences, and with some
abbrev pub trace_done : ℕ → ℕ
trace_done zero = 0
trace_done (suc n) = 7
