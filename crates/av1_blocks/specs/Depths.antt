-- The depths that samples have.
use Rattle.std.specs.Prelude.{◌≡◌, ℕ, ◌⊎◌}

-- A depth of samples, in bits (BitDepth).
abbrev pub IsDepth : ℕ → Type 0
IsDepth depth = (depth ≡ 8) ⊎ ((depth ≡ 10) ⊎ (depth ≡ 12))
