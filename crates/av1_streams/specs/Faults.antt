-- Counts of faults, and what the result of a call says of them.
use Rattle.std.specs.Prelude.{◌≡◌, ℕ, ◌≤◌, Result, OnOk, OnErr}
use Rattle.av1_lists.specs.Counts.{counted}

-- one fault was counted: the count rose by one, or stays at the last value of a `u64`
abbrev pub FaultCounted : ℕ → ℕ → Type 0
FaultCounted before now = now ≡ counted before

-- a call that failed counted one fault, a call that succeeded counted none, and no call lowers the count
pub record HasCause {T E : Type 0} (before now : ℕ) (result : Result T E) : Type 0 where
  pub failed : OnErr result (FaultCounted before now)
  pub uncounted : OnOk result (now ≡ before)
  pub later : before ≤ now
