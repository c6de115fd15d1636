-- The error of a sequence for each error of a lower call.
use Rattle.std.specs.Prelude.{ℕ}
use Rattle.av1_plan.specs.declared.error.PlanError.{PlanError}
use Rattle.av1_plan.specs.declared.error.PlanError.TheVariants as plan_errors
use Rattle.av1_streams.specs.declared.read.ReadError.{ReadError}
use Rattle.av1_streams.specs.declared.read.ReadError.TheVariants as read_errors
use Rattle.av1_sequence.specs.declared.error.FrameError.{FrameError}
use Rattle.av1_sequence.specs.declared.error.FrameError.TheVariants as frame_errors
use Rattle.av1_sequence.specs.declared.error.FrameFault.TheVariants as faults
use Rattle.av1_sequence.specs.declared.error.SequenceError.{SequenceError}
use Rattle.av1_sequence.specs.declared.error.SequenceError.TheVariants as errors

-- an error of reading bytes
abbrev pub read_error : ReadError → SequenceError
read_error read_errors.ReadFault = errors.ReadFault
read_error read_errors.TooLong = errors.TooLong
read_error read_errors.Memory = errors.Memory

-- an error of reading the sequence from its bytes
abbrev pub file_error : PlanError → SequenceError
file_error (plan_errors.Malformed at) = errors.Malformed at
file_error plan_errors.Memory = errors.Memory

-- an error of a frame, with its number
abbrev pub frame_error : ℕ → FrameError → SequenceError
frame_error i frame_errors.TooLarge = errors.Frame i faults.TooLarge
frame_error i (frame_errors.Malformed at) = errors.Frame i (faults.Malformed at)
frame_error i (frame_errors.Invalid leaf kind) = errors.Frame i (faults.Invalid leaf kind)
frame_error i frame_errors.Memory = errors.Memory
