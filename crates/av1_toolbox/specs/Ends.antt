-- The exit statuses of success.
use Rattle.std.specs.Prelude.{◌≡◌, ◌⊎◌, ℕ}

-- all output was written: 0, or 7 for a trace that differs
abbrev pub IsSuccess : ℕ → Type 0
IsSuccess status = (status ≡ 0) ⊎ (status ≡ 7)
