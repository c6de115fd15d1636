-- A slice of differences whose first entries are lent, and the slice afterwards.
use Rattle.std.specs.Prelude.{ℤ, List, ◌++◌}
use Rattle.std.specs.Borrow.{Lends, MutBor, Fml, Array, i16}

-- what is written to the result is in s before `rest` afterwards
abbrev pub LendsBefore : MutBor (List ℤ) → List ℤ → MutBor (List ℤ) → Fml
LendsBefore s rest result = Lends (Array i16 0) (Array i16 0) s result (λ ws. ws ++ rest)
