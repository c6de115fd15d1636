-- The outcome of the bytes of a grid of tiles.
use Rattle.std.specs.Prelude.{◌≡◌, ℕ, List, Ok, Err}
use Rattle.av1_tiles.specs.Outcomes.{HasOutcome}
use Rattle.av1_tiles.specs.declared.error.TilesError.{TilesError}
use Rattle.av1_c.specs.PartFaults.{tiles_fault}
use Rattle.av1_c.specs.Parts.{PartsOutcome}

-- the planes of the grid's frame, or why the bytes are rejected
abbrev pub TilesComeTo : List ℕ → PartsOutcome → Type 0
TilesComeTo bytes (Ok planes) = HasOutcome bytes (Ok planes)
TilesComeTo bytes (Err fault) = (e : TilesError) × HasOutcome bytes (Err e) × (fault ≡ tiles_fault e)
