-- A grid of tiles in memory.
use Rattle.std.specs.Prelude.{map}
use Rattle.av1_plan.specs.Plan.{slot_values}
use Rattle.av1_tiles.specs.declared.file.Front.{Front}
use Rattle.av1_tiles.specs.declared.file.TileFile.{TileFile}
use Rattle.av1_tiles.specs.Grammar.{FrontValue, FileValue}

abbrev pub front_value : Front → FrontValue
front_value f = record {
  header = f.header;
  references = slot_values f.references.items;
  columns = f.columns.items;
  rows = f.rows.items;
}

abbrev pub file_value : TileFile → FileValue
file_value f = record { front = front_value f.front; parts = map (λ part. part.now) f.parts.items }
