-- The outcome of the bytes of a grid of tiles: the bytes of its joined planes, or why the grid is rejected.
use Rattle.std.specs.Prelude.{◌≡◌, ℕ, List, Result, Ok, Err}
use Rattle.av1_tile.specs.Canvas.{Component}
use Rattle.av1_tile.specs.Output.{visible}
use Rattle.av1_tiles.specs.declared.error.TilesError.{TilesError}
use Rattle.av1_tiles.specs.Grammar.{FileValue}
use Rattle.av1_tiles.specs.Joined.{ComesTo}
use Rattle.av1_tiles.specs.Refusals.{AreGrid, AreRefusedFor}

-- the bytes are a grid of valid tiles, and these are the bytes of its joined planes
abbrev pub AreJoined : List ℕ → List ℕ → Type 0
AreJoined bytes written =
    (f : FileValue) × AreGrid bytes f ×
    ((frame : Component → ℕ → ℕ → ℕ) × ComesTo f frame × (written ≡ visible f.front.header frame))

-- the bytes of the joined planes, or why the grid is rejected
abbrev pub HasOutcome : List ℕ → Result (List ℕ) TilesError → Type 0
HasOutcome bytes (Ok written) = AreJoined bytes written
HasOutcome bytes (Err e) = AreRefusedFor bytes e

-- Bytes have at most one outcome.
abbrev pub OutcomesAreOne : Type 0
OutcomesAreOne = (bytes : List ℕ) (a b : Result (List ℕ) TilesError) → HasOutcome bytes a → HasOutcome bytes b → a ≡ b
