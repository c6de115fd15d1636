-- What the exit status says of the bytes and of the output.
use Rattle.std.specs.Prelude.{◌≡◌, ◌≢◌, ℕ, ◌<◌, List, [], ◌++◌, length, take, codes, decimal, Option, Result, Ok, Err}
use Rattle.std.specs.Prelude.{Bool, true, false, IfSome, ⊤}
use Rattle.av1_streams.specs.Streams.{max_plan_bytes}
use Rattle.av1_streams.specs.Tasks.{Cause, read_failed, too_long, refused, write_failed, no_memory}
use Rattle.av1_recon.specs.Ends.{error_status}
use Rattle.av1_rows.specs.declared.error.RowsError.{RowsError}
use Rattle.av1_rows.specs.declared.error.RowsError.TheVariants.{ReadFault, TooLong, NoRows, Malformed, Memory}
use Rattle.av1_rows.specs.declared.error.RowsError.TheVariants.{WriteFault}
use Rattle.av1_rows.specs.Rows.{Replayed, BeginWith, AreReplayed, magic}
use Rattle.av1_rows.specs.Tallies.{counts_of}

-- ---- errors

-- the cause of an error
abbrev pub cause : RowsError → Cause
cause ReadFault = read_failed
cause TooLong = too_long
cause NoRows = refused
cause (Malformed row) = refused
cause Memory = no_memory
cause WriteFault = write_failed

-- Why bytes are rejected. They are too long, or don't begin like a file. Or they begin like a file with `row` rows that
-- were replayed, and then have other bytes. The other errors say nothing of the bytes.
abbrev pub Refuses : RowsError → List ℕ → Type 0
Refuses TooLong bytes = max_plan_bytes < length bytes
Refuses NoRows bytes = take 4 bytes ≢ magic
Refuses (Malformed row) bytes = (rows : List Replayed) × (rest : List ℕ) × BeginWith bytes rows rest × (rest ≢ []) ×
    (row ≡ (counts_of rows).count)
Refuses ReadFault bytes = ⊤
Refuses Memory bytes = ⊤
Refuses WriteFault bytes = ⊤

-- ---- results

-- whether all rows agree, or why they were not replayed
abbrev pub Answer : Type 0
Answer = Result Bool RowsError

-- the exit status of a result
abbrev pub status_of : Answer → ℕ
status_of (Ok true) = 0
status_of (Ok false) = 1
status_of (Err e) = error_status (cause e)

-- the line for an error
abbrev pub error_line : RowsError → List ℕ
error_line ReadFault = codes "read fault\n"
error_line TooLong = codes "too long\n"
error_line NoRows = codes "no rows\n"
error_line (Malformed row) = codes "malformed row " ++ decimal row ++ codes "\n"
error_line Memory = codes "out of memory\n"
error_line WriteFault = codes "write fault\n"

-- the line for a result, none if the rows were replayed
abbrev pub line_of : Answer → List ℕ
line_of (Ok agree) = []
line_of (Err e) = error_line e

-- ---- what was done

-- the bytes are a file of rows, each of which was replayed, and P holds of them
abbrev pub Rows : Option (List ℕ) → (List Replayed → Type 0) → Type 0
Rows left P = IfSome left (λ bytes. (rows : List Replayed) × AreReplayed bytes rows × P rows)
