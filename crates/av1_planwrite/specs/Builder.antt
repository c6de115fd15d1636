-- An unfinished plan, with its bytes.
use Rattle.std.specs.Prelude.{List, ℕ}
use Rattle.av1_plan.specs.Plan.{PlanValue}
use Rattle.av1_plan.specs.Walk.{remaining}
use Rattle.av1_planwrite.specs.declared.progress.Progress.{Progress}
use Rattle.av1_planwrite.specs.Building.{Building, Tells}

-- an unfinished plan in this state, with these bytes
abbrev pub built : Progress → List ℕ → Building
built p bytes = record { header = p.walk.header; slot = p.slot; parts = remaining p.walk; bytes = bytes }

-- the bytes of an unfinished plan spell a part of some plan
abbrev pub TellsSome : Building → Type 0
TellsSome b = (p : PlanValue) × Tells b p
