-- The tasks of the calls that read a sequence of frames or a grid of tiles to its end and write its page.
use Rattle.std.specs.Prelude.{◌≡◌, ℕ, List, [], Result, Ok, Err, ⊤}
use Rattle.av1_sequence.specs.Files.{HasOutcome as SequenceOutcome}
use Rattle.av1_sequence.specs.Tasks.{cause_of as sequence_cause}
use Rattle.av1_sequence.specs.declared.error.SequenceError.{SequenceError}
use Rattle.av1_sequence.specs.declared.error.SequenceError.TheVariants as sequence_errors
use Rattle.av1_streams.specs.Streams.{max_plan_bytes}
use Rattle.av1_streams.specs.Tasks.{Cause, Task}
use Rattle.av1_tiles.specs.Outcomes.{HasOutcome as TilesOutcome}
use Rattle.av1_tiles.specs.Tasks.{cause_of as tiles_cause}
use Rattle.av1_tiles.specs.declared.error.TilesError.{TilesError}
use Rattle.av1_tiles.specs.declared.error.TilesError.TheVariants as tiles_errors
use Rattle.av1_view.specs.declared.file.KeptFile.{KeptFile}
use Rattle.av1_view.specs.Page.{page}

-- the page of the bytes of a file, and of its planes
unfoldable pub file_page : (bytes planes : List ℕ) → List ℕ
file_page bytes planes = page bytes planes [] []

-- ---- the outcomes of files

-- the outcome of the bytes of a file: the bytes of its planes, or why the file is rejected
abbrev pub Outcome : Type 0 → Type 1
Outcome E = List ℕ → Result (List ℕ) E → Type 0

-- The outcome of a sequence: the planes of its shown frames. It is rejected if it is not valid or an entry is rejected.
abbrev pub SequenceComesTo : List ℕ → Result (List ℕ) SequenceError → Type 0
SequenceComesTo bytes (Ok planes) = SequenceOutcome bytes planes (Ok tt)
SequenceComesTo bytes (Err e) = (planes : List ℕ) × SequenceOutcome bytes planes (Err e)

-- ---- pages of files

-- the page of the bytes, or why they are rejected
abbrev pub HasPage : {E : Type 0} → Outcome E → List ℕ → Result (List ℕ) E → Type 0
HasPage ComesTo bytes (Ok written) = (planes : List ℕ) × ComesTo bytes (Ok planes) × (written ≡ file_page bytes planes)
HasPage ComesTo bytes (Err e) = ComesTo bytes (Err e)

-- the task of a call that shows such files
abbrev pub file_page_task : {E : Type 0} → Outcome E → (E → Cause) → Task (List ℕ) (Unit {0}) E
file_page_task ComesTo cause = record {
  limit = max_plan_bytes;
  HasOutcome = HasPage ComesTo;
  written = λ bytes. bytes;
  Says = λ done bytes. ⊤;
  cause = cause;
}

-- the task for sequences, and the task for grids of tiles
abbrev pub sequence_page_task : Task (List ℕ) (Unit {0}) SequenceError
sequence_page_task = file_page_task SequenceComesTo sequence_cause

abbrev pub tiles_page_task : Task (List ℕ) (Unit {0}) TilesError
tiles_page_task = file_page_task TilesOutcome tiles_cause

-- ---- definitions for private contracts

-- a file in memory has these bytes, and their planes; or why the bytes are rejected
abbrev pub IsKept : {E : Type 0} → Outcome E → List ℕ → Result KeptFile E → Type 0
IsKept ComesTo bytes (Ok file) = (file.bytes.items ≡ bytes) × ComesTo bytes (Ok file.planes.items)
IsKept ComesTo bytes (Err e) = ComesTo bytes (Err e)

-- the error if all is read from memory and written to memory: there a write only fails if memory runs out
abbrev pub sequence_in_memory : SequenceError → SequenceError
sequence_in_memory sequence_errors.ReadFault = sequence_errors.Memory
sequence_in_memory sequence_errors.TooLong = sequence_errors.TooLong
sequence_in_memory (sequence_errors.Malformed at) = sequence_errors.Malformed at
sequence_in_memory (sequence_errors.Frame i fault) = sequence_errors.Frame i fault
sequence_in_memory (sequence_errors.EmptySlot i) = sequence_errors.EmptySlot i
sequence_in_memory sequence_errors.WriteFault = sequence_errors.Memory
sequence_in_memory sequence_errors.Memory = sequence_errors.Memory

abbrev pub tiles_in_memory : TilesError → TilesError
tiles_in_memory tiles_errors.ReadFault = tiles_errors.Memory
tiles_in_memory tiles_errors.TooLong = tiles_errors.TooLong
tiles_in_memory (tiles_errors.Malformed at) = tiles_errors.Malformed at
tiles_in_memory (tiles_errors.Tile i fault) = tiles_errors.Tile i fault
tiles_in_memory tiles_errors.WriteFault = tiles_errors.Memory
tiles_in_memory tiles_errors.Memory = tiles_errors.Memory
