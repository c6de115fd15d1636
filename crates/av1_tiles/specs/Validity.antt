-- Which tiles are valid, and why others are rejected.
use Rattle.std.specs.Prelude.{◌≡◌, ℕ, ◌<◌, Some, None, ⊤}
use Rattle.av1_plan.specs.Plan.{PlanValue}
use Rattle.av1_plan.specs.Spelling.{AreText, AreRefused}
use Rattle.av1_plan.specs.Validity.{first_fault}
use Rattle.av1_recon.specs.declared.error.PlanFault.{PlanFault}
use Rattle.av1_recon.specs.declared.error.PlanFault.TheVariants as faults
use Rattle.av1_tiles.specs.declared.error.TileError.{TileError}
use Rattle.av1_tiles.specs.declared.error.TileError.TheVariants as errors
use Rattle.av1_tiles.specs.Grammar.{FileValue, count_tiles}
use Rattle.av1_tiles.specs.Tiles.{tile_plan, part_of}

-- the part of tile i spells this plan, and no leaf of the plan is bad
pub record IsTile (f : FileValue) (i : ℕ) (plan : PlanValue) : Type 0 where
  pub text : AreText (tile_plan f.front i) (part_of f i) plan
  pub valid : first_fault plan ≡ None

-- Why the part of tile i is rejected: it is not the text of a plan, or it is the text of a plan whose first bad leaf
-- has this fault.
abbrev pub IsRefusedTile : FileValue → ℕ → PlanFault → Type 0
IsRefusedTile f i (faults.Malformed at) = AreRefused (tile_plan f.front i) (part_of f i) at
IsRefusedTile f i (faults.Invalid leaf kind) = (plan : PlanValue) × AreText (tile_plan f.front i) (part_of f i) plan ×
    (first_fault plan ≡ Some (record { leaf = leaf; kind = kind }))

-- why a tile is rejected, or memory ran out, which says nothing
abbrev pub RefusesTile : FileValue → ℕ → TileError → Type 0
RefusesTile f i (errors.Refused fault) = IsRefusedTile f i fault
RefusesTile f i errors.Memory = ⊤

-- these are the plans of all tiles
abbrev pub AreTiles : FileValue → (ℕ → PlanValue) → Type 0
AreTiles f plans = (i : ℕ) → i < count_tiles f.front → IsTile f i (plans i)
