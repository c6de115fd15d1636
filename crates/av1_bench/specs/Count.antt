-- The command line's arguments.
use Rattle.std.specs.Prelude.{◌≡◌, ℕ, ◌<◌, List, [], ◌∷◌, Option, Some, None, if◌then◌else◌, bytes_eq, codes}
use Rattle.av1_recon.specs.Numbers.{number_of}

-- the arguments, each given by its bytes, are one number other than 0
abbrev pub IsCount : List (List ℕ) → ℕ → Type 0
IsCount [] count = ⊥
IsCount (word ∷ []) count = (number_of word ≡ Some count) × (0 < count)
IsCount (word ∷ other ∷ words) count = ⊥

-- the number of the plan to write: the arguments are `make` and this number
abbrev pub made_of : List (List ℕ) → Option ℕ
made_of [] = None
made_of (name ∷ []) = None
made_of (name ∷ word ∷ []) = if bytes_eq name (codes "make") then number_of word else None
made_of (name ∷ word ∷ other ∷ words) = None

-- the line for other arguments
abbrev pub usage : List ℕ
usage = codes "usage: bench N < plan | make N\n"
