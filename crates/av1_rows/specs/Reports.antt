-- The report on rows.
use Rattle.std.specs.Prelude.{ℕ, zero, suc, List, [], ◌++◌, Option, Some, None, get_or, codes, decimal, ◌==◌}
use Rattle.std.specs.Prelude.{if◌then◌else◌}
use Rattle.av1_rows.specs.Rows.{Told, Replayed, kinds}
use Rattle.av1_rows.specs.Tallies.{Counts, Differs, counts_of}

-- the name of a kind
unfoldable pub kind_text : ℕ → List ℕ
kind_text kind =
    if kind == 0 then codes "program"
    else if kind == 1 then codes "tools"
    else if kind == 2 then codes "network"
    else if kind == 3 then codes "transform"
    else if kind == 4 then codes "put"
    else if kind == 5 then codes "prepare"
    else if kind == 6 then codes "average"
    else if kind == 7 then codes "intra"
    else if kind == 8 then codes "from luma"
    else if kind == 9 then codes "edge"
    else if kind == 10 then codes "luma"
    else codes "availability"

-- the line for a kind: how many rows there are, and how many differ
abbrev pub kind_line : ℕ → ℕ → ℕ → List ℕ
kind_line kind rows differ = kind_text kind ++ codes ": " ++ decimal rows ++ codes " rows, " ++ decimal differ
    ++ codes " differ\n"

-- the lines for the kinds below this one
unfoldable pub lines_below : Counts → ℕ → List ℕ
lines_below counts zero = []
lines_below counts (suc kind) =
    lines_below counts kind ++ kind_line kind (get_or counts.rows kind 0) (get_or counts.differ kind 0)

-- the line of the first row that differs, and the lines of its answer and of the wanted answer
abbrev pub row_line : Differs → List ℕ
row_line first = codes "first row that differs: " ++ decimal first.row ++ codes ", " ++ kind_text first.kind
    ++ codes "\n"

abbrev pub numbers_text : List ℕ → Told → List ℕ
numbers_text name told = name ++ codes " status " ++ decimal told.status ++ codes ", " ++ decimal told.count
    ++ codes " bytes of digest "
    ++ decimal told.digest ++ codes ", text: "

abbrev pub answer_text : List ℕ → Told → List ℕ
answer_text name told = numbers_text name told ++ told.text ++ codes "\n"

-- the lines on the first row that differs, none if no row does
abbrev pub first_text : Option Differs → List ℕ
first_text None = []
first_text (Some first) = row_line first ++ answer_text (codes "came") first.came
    ++ answer_text (codes "wanted") first.wanted

-- the report of counts: a line for each kind, and the first row that differs
abbrev pub report_text : Counts → List ℕ
report_text counts = lines_below counts kinds ++ first_text counts.first

-- the report of rows
abbrev pub report : List Replayed → List ℕ
report rows = report_text (counts_of rows)
