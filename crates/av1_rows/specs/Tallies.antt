-- The counts of rows of each kind, and of rows that differ.
use Rattle.std.specs.Prelude.{ℕ, List, Option, Some, None, Bool, set, get_or, replicate, fold, if◌then◌else◌}
use Rattle.av1_lists.specs.Counts.{counted}
use Rattle.av1_rows.specs.Rows.{Told, Replayed, told_by, wanted_by, kinds}
use Rattle.av1_rows.specs.declared.tally.DifferingRow.{DifferingRow}
use Rattle.av1_rows.specs.declared.tally.Tally.{Tally}

-- a row that differs: its number, its kind, its answer and the wanted answer
pub record Differs : Type 0 where
  pub row : ℕ
  pub kind : ℕ
  pub came : Told
  pub wanted : Told

-- how many rows there are, how many of each kind, how many of each kind differ, and the first row that differs
pub record Counts : Type 0 where
  pub count : ℕ
  pub rows : List ℕ
  pub differ : List ℕ
  pub first : Option Differs

-- the row that differs of a tally, as such a value
abbrev pub differs_by : DifferingRow → Differs
differs_by difference = record {
  row = difference.row;
  kind = difference.kind;
  came = told_by difference.came;
  wanted = told_by difference.wanted;
}

abbrev pub first_by : Option DifferingRow → Option Differs
first_by None = None
first_by (Some difference) = Some (differs_by difference)

abbrev pub counts_by : Tally → Counts
counts_by tally = record { count = tally.count; rows = tally.rows; differ = tally.differ; first = first_by tally.first }

-- one more at this index, at most the last value of a `u64`
abbrev pub one_more : List ℕ → ℕ → List ℕ
one_more counts kind = set counts kind (counted (get_or counts kind 0))

-- the earlier value if there is one, else the later
abbrev pub earlier : Option Differs → Differs → Option Differs
earlier None later = Some later
earlier (Some first) later = Some first

-- the counts with one more row
abbrev pub with_row : Counts → ℕ → Bool → Told → Told → Counts
with_row counts kind agrees came wanted = record {
  count = counted counts.count;
  rows = one_more counts.rows kind;
  differ = if agrees then counts.differ else one_more counts.differ kind;
  first = if agrees then counts.first
      else earlier counts.first (record { row = counts.count; kind = kind; came = came; wanted = wanted });
}

abbrev pub with_replayed : Counts → Replayed → Counts
with_replayed counts replayed =
    with_row counts replayed.row.kind replayed.agrees replayed.came (wanted_by replayed.row.wanted)

-- no rows
abbrev pub no_rows : Counts
no_rows = record { count = 0; rows = replicate kinds 0; differ = replicate kinds 0; first = None }

-- the counts of rows
abbrev pub counts_of : List Replayed → Counts
counts_of rows = fold with_replayed no_rows rows
