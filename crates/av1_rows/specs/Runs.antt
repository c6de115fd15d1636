-- The bytes of the fields of a run in its row.
use Rattle.std.specs.Prelude.{ℕ, List}
use Rattle.av1_replay.specs.Fields.{four_before, part_before, short_part_before}
use Rattle.av1_rows.specs.declared.run.Pieces.{Pieces}
use Rattle.av1_rows.specs.declared.run.Program.{Program}
use Rattle.av1_rows.specs.declared.run.Program.TheVariants.{Reconstruction, Tools}
use Rattle.av1_rows.specs.declared.run.Room.{Room}
use Rattle.av1_rows.specs.declared.run.Run.{Run}

-- the number of the kind of a program's runs
abbrev pub program_kind : Program → ℕ
program_kind Reconstruction = 0
program_kind Tools = 1

-- how many bytes a call moves at most, and which call fails
abbrev pub pieces_before : Pieces → List ℕ → List ℕ
pieces_before pieces others = four_before pieces.size (four_before pieces.failing others)

-- how many bytes a sink takes, and the calls that move them
abbrev pub room_before : Room → List ℕ → List ℕ
room_before room others = four_before room.count (pieces_before room.pieces others)

-- the arguments, the source, the sinks of the output and of lines, the input, and the number of zeros that follow it
abbrev pub run_before : Run → List ℕ → List ℕ
run_before r others =
    short_part_before r.words.now
    (pieces_before r.source
    (room_before r.out (room_before r.err (part_before r.input.now (four_before r.zeros others)))))
