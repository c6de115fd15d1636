-- The command line's arguments.
use Rattle.std.specs.Prelude.{ℕ, List, [], ◌∷◌, Option, Some, None, bytes_eq, codes, if◌then◌else◌}
use Rattle.av1_toolbox.specs.declared.tool.Tool.{Tool}
use Rattle.av1_toolbox.specs.declared.tool.Tool.TheVariants.{Tiles, Trace, Sequence, Bare}

-- the tool of this name
unfoldable pub named : List ℕ → Option Tool
named name =
    if bytes_eq name (codes "tiles")
    then Some Tiles
    else if bytes_eq name (codes "trace")
    then Some Trace
    else if bytes_eq name (codes "sequence")
    then Some Sequence
    else if bytes_eq name (codes "bare")
    then Some Bare
    else None

-- the tool of the arguments, each given by its bytes; None if they are not a tool's name
abbrev pub tool_of : List (List ℕ) → Option Tool
tool_of [] = None
tool_of (word ∷ []) = named word
tool_of (word ∷ other ∷ words) = None
