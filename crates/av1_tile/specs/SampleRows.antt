-- Samples in rows.
use Rattle.std.specs.Prelude.{ℕ, List}

-- samples one row after the other, each row of this width
pub record SampleRows (T : Type 0) : Type 0 where
  pub width : ℕ
  pub samples : List T
