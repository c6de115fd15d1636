-- Definitions for private contracts on samples.
use Rattle.std.specs.Prelude.{ℕ, max, List, [], ◌∷◌}

-- the greatest of some samples, or 0
abbrev pub greatest : List ℕ → ℕ
greatest [] = 0
greatest (x ∷ xs) = max x (greatest xs)
