-- Why the bytes of a grid of tiles are rejected.
use Rattle.std.specs.Prelude.{◌≡◌, ℕ, ◌<◌, ◌≤◌, List, length, Ok, Err, ⊤}
use Rattle.av1_plan.specs.Plan.{PlanValue}
use Rattle.av1_streams.specs.Streams.{AreBytes, max_plan_bytes}
use Rattle.av1_recon.specs.declared.error.PlanFault.{PlanFault}
use Rattle.av1_tiles.specs.declared.error.TilesError.{TilesError}
use Rattle.av1_tiles.specs.declared.error.TilesError.TheVariants.{ReadFault, TooLong, Malformed, Tile, WriteFault}
use Rattle.av1_tiles.specs.declared.error.TilesError.TheVariants.{Memory}
use Rattle.av1_tiles.specs.Grammar.{FileValue, count_tiles, read_file}
use Rattle.av1_tiles.specs.Validity.{IsTile, IsRefusedTile}

-- the bytes are this grid, and are no longer than a plan may be
pub record AreGrid (bytes : List ℕ) (f : FileValue) : Type 0 where
  pub fits : AreBytes bytes
  pub short : length bytes ≤ max_plan_bytes
  pub read : read_file bytes ≡ Ok f

-- tile i is the first rejected tile, for this reason
pub record IsFirstRefused (f : FileValue) (i : ℕ) (fault : PlanFault) : Type 0 where
  pub within : i < count_tiles f.front
  pub before : (k : ℕ) → k < i → (plan : PlanValue) × IsTile f k plan
  pub refused : IsRefusedTile f i fault

-- why the tiles of a grid are rejected; running out of memory says nothing
abbrev pub RefusesTiles : FileValue → TilesError → Type 0
RefusesTiles f (Tile i fault) = IsFirstRefused f i fault
RefusesTiles f Memory = ⊤
RefusesTiles f ReadFault = ⊥
RefusesTiles f TooLong = ⊥
RefusesTiles f (Malformed at) = ⊥
RefusesTiles f WriteFault = ⊥

-- Why bytes are rejected: they are too long, or not a valid grid of tiles, or this tile is the first rejected tile.
abbrev pub AreRefusedFor : List ℕ → TilesError → Type 0
AreRefusedFor bytes TooLong = max_plan_bytes < length bytes
AreRefusedFor bytes (Malformed at) = (length bytes ≤ max_plan_bytes) × (read_file bytes ≡ Err at)
AreRefusedFor bytes (Tile i fault) = (f : FileValue) × AreGrid bytes f × IsFirstRefused f i fault
AreRefusedFor bytes ReadFault = ⊥
AreRefusedFor bytes WriteFault = ⊥
AreRefusedFor bytes Memory = ⊥
