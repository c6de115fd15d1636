-- The task of the call that reads a grid of tiles and writes the planes of its frame.
use Rattle.std.specs.Prelude.{ℕ, List, Result, Ok, Err, ⊤}
use Rattle.av1_streams.specs.Streams.{max_plan_bytes}
use Rattle.av1_streams.specs.Tasks.{Cause, read_failed, too_long, refused, write_failed, no_memory, Task}
use Rattle.av1_tiles.specs.declared.error.TilesError.{TilesError}
use Rattle.av1_tiles.specs.declared.error.TilesError.TheVariants.{ReadFault, TooLong, Malformed, Tile, WriteFault}
use Rattle.av1_tiles.specs.declared.error.TilesError.TheVariants.{Memory}
use Rattle.av1_tiles.specs.declared.joined.Frame.{Frame}
use Rattle.av1_tiles.specs.Frames.{IsFrame, frame_bytes}
use Rattle.av1_tiles.specs.Outcomes.{HasOutcome}

-- the cause of an error
abbrev pub cause_of : TilesError → Cause
cause_of ReadFault = read_failed
cause_of TooLong = too_long
cause_of (Malformed at) = refused
cause_of (Tile i fault) = refused
cause_of WriteFault = write_failed
cause_of Memory = no_memory

-- the task: read a grid of tiles, no longer than a plan may be, and write the bytes of its joined planes
abbrev pub tiles_task : Task (List ℕ) (Unit {0}) TilesError
tiles_task = record {
  limit = max_plan_bytes;
  HasOutcome = HasOutcome;
  written = λ bytes. bytes;
  Says = λ done outcome. ⊤;
  cause = cause_of;
}

-- a frame in memory is the outcome of the bytes
abbrev pub HoldFrame : List ℕ → Result Frame TilesError → Type 0
HoldFrame bytes (Ok frame) = HasOutcome bytes (Ok (frame_bytes frame)) × IsFrame frame
HoldFrame bytes (Err e) = HasOutcome bytes (Err e)
