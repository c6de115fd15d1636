-- The command line's arguments.
use Rattle.std.specs.Prelude.{ℕ, List, [], ◌∷◌, Option, Some, None, bytes_eq, codes, if◌then◌else◌}
use Rattle.av1_view.specs.declared.command.ViewCommand.{ViewCommand}
use Rattle.av1_view.specs.declared.command.ViewCommand.TheVariants.{Plan, Trace, Sequence, Tiles}

-- the command of this name
unfoldable pub named : List ℕ → Option ViewCommand
named name =
    if bytes_eq name (codes "trace")
    then Some Trace
    else if bytes_eq name (codes "sequence")
    then Some Sequence
    else if bytes_eq name (codes "tiles")
    then Some Tiles
    else None

-- the command of the arguments, each given by its bytes; None if they are not a valid command
abbrev pub command_of : List (List ℕ) → Option ViewCommand
command_of [] = Some Plan
command_of (word ∷ []) = named word
command_of (word ∷ other ∷ words) = None
