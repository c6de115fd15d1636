-- What the call that reads a grid of tiles and writes its planes says, from what its halves say.
use Rattle.std.proofs.Common.{◌≡◌, ℕ, ◌<◌, ◌≤◌, List, length, Option, Result, Ok, Err, refl, sym, subst, arith}
use Rattle.std.specs.Prelude.{IfOk, IsErrAnd, ⊤}
use Rattle.av1_streams.specs.Streams.{max_plan_bytes}
use Rattle.av1_streams.specs.Tasks.{too_long, refused, Performs, Reads, WritesBytes}
use Rattle.av1_streams.specs.declared.read.ReadError.{ReadError}
use Rattle.av1_streams.specs.declared.read.ReadError.TheVariants as read_errors
use Rattle.av1_streams.proofs.Performing.{IsSound, carries_on, stops, is_err}
use Rattle.av1_streams.proofs.Reading.{read_cause}
use Rattle.av1_tiles.specs.declared.error.TilesError.{TilesError}
use Rattle.av1_tiles.specs.declared.error.TilesError.TheVariants.{ReadFault, TooLong, Malformed, Tile, WriteFault, Memory}
use Rattle.av1_tiles.specs.declared.joined.Frame.{Frame}
use Rattle.av1_tiles.specs.Errors.{read_error}
use Rattle.av1_tiles.specs.Frames.{IsFrame, frame_bytes}
use Rattle.av1_tiles.specs.Refusals.{AreRefusedFor}
use Rattle.av1_tiles.specs.Tasks.{cause_of, tiles_task, HoldFrame}
use Rattle.av1_tiles.proofs.Outcomes.{one_outcome}

-- bytes past the limit are refused for that
refused_long : (bytes : List ℕ) (e : TilesError) → cause_of e ≡ too_long → max_plan_bytes < length bytes → AreRefusedFor bytes e
refused_long bytes TooLong is over = over
refused_long bytes ReadFault is over = absurd cc
refused_long bytes (Malformed at) is over = absurd cc
refused_long bytes (Tile i fault) is over = absurd cc
refused_long bytes WriteFault is over = absurd cc
refused_long bytes Memory is over = absurd cc

pub tiles_task_sound : IsSound tiles_task
tiles_task_sound = record { one = one_outcome; long = refused_long }

-- others are refused for what they are
pub short_refused : (bytes : List ℕ) (e : TilesError) → length bytes ≤ max_plan_bytes → AreRefusedFor bytes e → cause_of e ≡ refused
short_refused bytes TooLong short r = absurd (omega (arith, short, r))
short_refused bytes (Malformed at) short r = refl
short_refused bytes (Tile i fault) short r = refl
short_refused bytes ReadFault short r = absurd r
short_refused bytes WriteFault short r = absurd r
short_refused bytes Memory short r = absurd r

-- an error of reading blames what it did
pub blames : (e : ReadError) → cause_of (read_error e) ≡ read_cause e
blames read_errors.ReadFault = refl
blames read_errors.TooLong = refl
blames read_errors.Memory = refl

says_nothing : (answer : Result (Unit {0}) TilesError) → IfOk answer (λ done. ⊤)
says_nothing (Ok done) = tt
says_nothing (Err e) = tt

module _ {S K : Type 0} (left : S → Option (List ℕ)) (source_faults : S → ℕ) (taken : K → Option (List ℕ)) (sink_faults : K → ℕ) where
  -- a frame that was read is one
  pub is_frame : (source source' : S) (frame : Frame) → Reads max_plan_bytes cause_of HoldFrame left source_faults source source' (Ok frame) → IsFrame frame
  is_frame source source' frame reads = let (bytes, fits, short, consumed, (found, end)) = reads.read in found.1

  -- a frame was read and written
  pub goes_on : (source source' : S) (sink sink' : K) (frame : Frame) (answer : Result (Unit {0}) TilesError) →
      Reads max_plan_bytes cause_of HoldFrame left source_faults source source' (Ok frame)
      → WritesBytes cause_of taken sink_faults sink sink' (frame_bytes frame) answer →
      Performs tiles_task left source_faults taken sink_faults source source' sink sink' answer
  goes_on source source' sink sink' frame answer reads writes =
      carries_on tiles_task HoldFrame left source_faults taken sink_faults source source' sink sink' frame (frame_bytes frame) answer
      (λ bytes found. found.0) (says_nothing answer) reads writes

  -- no frame was read, and the answer is why
  pub ends : (source source' : S) (sink : K) (answer : Result (Unit {0}) TilesError) (e : TilesError) → IsErrAnd answer (λ d. d ≡ e) →
      Reads max_plan_bytes cause_of HoldFrame left source_faults source source' (Err e)
      → Performs tiles_task left source_faults taken sink_faults source source' sink sink answer
  ends source source' sink answer e is reads =
      subst (Performs tiles_task left source_faults taken sink_faults source source' sink sink) (sym (is_err answer e is))
      (stops tiles_task tiles_task_sound HoldFrame (λ bytes d r. r) left source_faults taken sink_faults source source' sink e reads)
