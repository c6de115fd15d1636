-- Counts that stay at the last value of a `u64`.
use Rattle.std.specs.Prelude.{ℕ, ◌+◌, ◌-◌, ◌^◌, min}

-- n more, but at most that value
abbrev pub raised : ℕ → ℕ → ℕ
raised count n = min (count + n) (2 ^ 64 - 1)

-- one more
abbrev pub counted : ℕ → ℕ
counted count = raised count 1
