-- The columns of a block that is stored row by row.
use Rattle.std.specs.Prelude.{ℕ, ◌+◌, ◌*◌, ℤ, List}
use Rattle.av1_lists.specs.Lists.{by_index}
use Rattle.av1_dct.specs.Arithmetic.{at}

-- column q of a block of n rows of w values
abbrev pub column_of : (n w q : ℕ) → List ℤ → List ℤ
column_of n w q block = by_index n (λ r. at block (r * w + q))
