-- The samples round a block, as numbers.
use Rattle.std.specs.Prelude.{ℕ, ◌+◌, ◌-◌, List, map, slice_index}

-- a side of a block: the number of the sample at each place
abbrev pub Side : Type 0
Side = ℕ → ℕ

-- the numbers of a list, and 0 past its end
abbrev pub entries : List ℕ → Side
entries xs = λ k. slice_index xs k

-- the numbers of samples
abbrev pub numbers : {X : Type 0} → (X → ℕ) → List X → Side
numbers num xs = entries (map num xs)

-- the numbers of the first n samples, from the last to the first: a left side from the top down, if its samples run
-- from the bottom up
abbrev pub from_top : {X : Type 0} → (X → ℕ) → ℕ → List X → Side
from_top num n xs = λ r. numbers num xs (n - 1 - r)

-- how far p is from q
abbrev pub distance : ℕ → ℕ → ℕ
distance p q = (p - q) + (q - p)
