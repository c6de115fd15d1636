-- The arguments after the program's name.
use Rattle.std.specs.Prelude.{◌≡◌, ℕ, List, [], ◌∷◌, Option, Some, None, option_and_then, bytes_eq, codes}
use Rattle.std.specs.Prelude.{if◌then◌else◌, ⊤}
use Rattle.av1_plan.specs.Generator.{plan_bytes}
use Rattle.av1_recon.specs.declared.command.Command.{Command}
use Rattle.av1_recon.specs.declared.command.Command.TheVariants.{Reconstruct, Make, Sum}
use Rattle.av1_recon.specs.Made.{AreMadeSums}
use Rattle.av1_recon.specs.Numbers.{number_of}

-- the command of this name that has a number
unfoldable pub named : List ℕ → ℕ → Option Command
named name number = if bytes_eq name (codes "make") then Some (Make number)
    else if bytes_eq name (codes "sum") then Some (Sum number) else None

-- the command of these arguments, each given by its bytes; None if they are not a valid command
abbrev pub command_of : List (List ℕ) → Option Command
command_of [] = Some Reconstruct
command_of (word ∷ []) = None
command_of (name ∷ word ∷ []) = option_and_then (named name) (number_of word)
command_of (name ∷ word ∷ other ∷ words) = None

-- the commands that read nothing
abbrev pub ReadsNothing : Option Command → Type 0
ReadsNothing (Some Reconstruct) = ⊥
ReadsNothing (Some (Make number)) = ⊤
ReadsNothing (Some (Sum number)) = ⊤
ReadsNothing None = ⊥

-- what a command that reads nothing writes if no write fails: the plan of its number, or the four lines on that plan
abbrev pub IsMade : Option Command → List ℕ → Type 0
IsMade (Some Reconstruct) bytes = ⊥
IsMade (Some (Make number)) bytes = bytes ≡ plan_bytes number
IsMade (Some (Sum number)) bytes = AreMadeSums number bytes
IsMade None bytes = ⊥
