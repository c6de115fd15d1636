-- The error of the whole path for each error of a lower call.
use Rattle.std.specs.Prelude.{ℕ}
use Rattle.av1_plan.specs.declared.error.PlanError.{PlanError}
use Rattle.av1_plan.specs.declared.error.PlanError.TheVariants as plan_errors
use Rattle.av1_streams.specs.declared.read.ReadError.{ReadError}
use Rattle.av1_streams.specs.declared.read.ReadError.TheVariants as read_errors
use Rattle.av1_tiles.specs.declared.error.TileError.{TileError}
use Rattle.av1_tiles.specs.declared.error.TileError.TheVariants as tile_errors
use Rattle.av1_tiles.specs.declared.error.TilesError.{TilesError}
use Rattle.av1_tiles.specs.declared.error.TilesError.TheVariants as errors

-- an error of reading bytes
abbrev pub read_error : ReadError → TilesError
read_error read_errors.ReadFault = errors.ReadFault
read_error read_errors.TooLong = errors.TooLong
read_error read_errors.Memory = errors.Memory

-- an error of reading the grid from its bytes
abbrev pub file_error : PlanError → TilesError
file_error (plan_errors.Malformed at) = errors.Malformed at
file_error plan_errors.Memory = errors.Memory

-- an error of a tile
abbrev pub tile_error : ℕ → TileError → TilesError
tile_error tile (tile_errors.Refused fault) = errors.Tile tile fault
tile_error tile tile_errors.Memory = errors.Memory
