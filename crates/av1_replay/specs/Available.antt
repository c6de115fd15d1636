-- The answers of the calls on availability.
use Rattle.std.specs.Prelude.{ℕ, Bool, ◌&&◌, List, [], if◌then◌else◌}
use Rattle.av1_avail.specs.Availability.{table_bottom_left, table_top_right}
use Rattle.av1_avail.specs.Bits.{bits_bottom_left, bits_top_right}
use Rattle.av1_avail.specs.Cells.{transform_columns, transform_rows}
use Rattle.av1_replay.specs.Fields.{flag_before}
use Rattle.av1_replay.specs.declared.availability.Availability.{Availability}

-- 1 if a plane is halved, else 0
abbrev pub decimation : Bool → ℕ
decimation halved = if halved then 1 else 0

-- whether the samples above right are coded before the transform, by the tables
abbrev pub above_right : Availability → Bool
above_right a =
    a.first && a.second && table_top_right a.block.size a.block.x a.block.y (transform_columns a.unit.size)
    a.unit.row a.unit.column (decimation a.halved_columns)

-- whether the samples below left are coded before the transform, by the tables
abbrev pub below_left : Availability → Bool
below_left a =
    a.first && a.second && table_bottom_left a.block.size a.block.x a.block.y (transform_rows a.unit.size)
    a.unit.row a.unit.column (decimation a.halved_columns) (decimation a.halved_rows)

-- both by the tables, then both by the bits of the block's position, a byte each
abbrev pub available_bytes : Availability → List ℕ
available_bytes a =
    flag_before (above_right a) (flag_before (below_left a) (
    flag_before (bits_top_right a.block.size a.block.x a.block.y) (
    flag_before (bits_bottom_left a.block.size a.block.x a.block.y) [])))
