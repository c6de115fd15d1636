-- The format of a file of rows, and replayed rows.
use Rattle.std.specs.Prelude.{◌≡◌, ◌↔◌, ℕ, ◌<◌, List, [], ◌∷◌, ◌++◌, Bool, IsTrue, All, flat_map, codes}
use Rattle.av1_replay.specs.Answers.{wanted_before}
use Rattle.av1_replay.specs.Calls.{call_before, kind_of}
use Rattle.av1_replay.specs.Fields.{part_before}
use Rattle.av1_replay.specs.declared.answer.Answer.{Answer}
use Rattle.av1_replay.specs.declared.answer.Wanted.{Wanted}
use Rattle.av1_rows.specs.Runs.{program_kind, run_before}
use Rattle.av1_rows.specs.declared.row.Call.{Call}
use Rattle.av1_rows.specs.declared.row.Call.TheVariants.{Run, Block}
use Rattle.av1_rows.specs.declared.row.Row.{Row}

-- ---- rows

-- how many kinds of rows there are
abbrev pub kinds : ℕ
kinds = 12

-- the number of a call's kind
abbrev pub call_kind : Call → ℕ
call_kind (Run r) = program_kind r.program
call_kind (Block call) = kind_of call

-- the fields of a call, before other bytes
abbrev pub fields_before : Call → List ℕ → List ℕ
fields_before (Run r) others = run_before r others
fields_before (Block call) others = call_before call others

-- the bytes after the length of a row: the fields of its call, and the wanted answer
abbrev pub body : Row → List ℕ
body row = fields_before row.call (wanted_before row.wanted [])

-- a row, before other bytes: the number of its kind, the number of bytes that follow, in four bytes, and then these
abbrev pub row_before : Row → List ℕ → List ℕ
row_before row others = row.kind ∷ part_before (body row) others

-- ---- answers

-- an answer: a status, a text, how many bytes were written, and their digest
pub record Told : Type 0 where
  pub status : ℕ
  pub text : List ℕ
  pub count : ℕ
  pub digest : ℕ

-- an answer, and a wanted answer, as such values
abbrev pub told_by : Answer → Told
told_by answer = record { status = answer.status; text = answer.text.items; count = answer.count; digest = answer.sum }

abbrev pub wanted_by : Wanted → Told
wanted_by wanted = record { status = wanted.status; text = wanted.text.now; count = wanted.count; digest = wanted.sum }

-- a row that was replayed, its answer, and whether this is the wanted answer
pub record Replayed : Type 0 where
  pub row : Row
  pub came : Told
  pub agrees : Bool

-- The row's kind is valid, and is the kind of its call. And `agrees` is true exactly if the answer is the wanted one.
pub record IsReplayed (replayed : Replayed) : Type 0 where
  pub known : replayed.row.kind < kinds
  pub kind : replayed.row.kind ≡ call_kind replayed.row.call
  pub told : IsTrue replayed.agrees ↔ (wanted_by replayed.row.wanted ≡ replayed.came)

-- ---- files

-- the bytes that a file begins with
abbrev pub magic : List ℕ
magic = codes "ROW1"

-- the bytes of rows
abbrev pub rows_text : List Replayed → List ℕ
rows_text rows = flat_map (λ replayed. row_before replayed.row []) rows

-- The bytes begin like a file, with these rows, each of which was replayed. Then comes the rest.
pub record BeginWith (bytes : List ℕ) (rows : List Replayed) (rest : List ℕ) : Type 0 where
  pub text : bytes ≡ (magic ++ rows_text rows) ++ rest
  pub each : All IsReplayed rows

-- the bytes are a file of these rows, each of which was replayed
pub record AreReplayed (bytes : List ℕ) (rows : List Replayed) : Type 0 where
  pub text : bytes ≡ magic ++ rows_text rows
  pub each : All IsReplayed rows

-- each of the rows has the wanted answer
abbrev pub AllAgree : List Replayed → Type 0
AllAgree rows = All (λ replayed. IsTrue replayed.agrees) rows
