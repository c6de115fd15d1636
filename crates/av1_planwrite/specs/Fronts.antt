-- The front of a text.
use Rattle.std.specs.Prelude.{◌≡◌, ℕ, List, length, take}

-- these bytes begin with those
abbrev pub Begins : List ℕ → List ℕ → Type 0
Begins front bytes = take (length front) bytes ≡ front
