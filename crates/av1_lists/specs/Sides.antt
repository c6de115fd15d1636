-- The sides of transforms.
use Rattle.std.specs.Prelude.{◌≡◌, ◌⊎◌, ℕ}

-- the sides that a transform block can have, in samples; a transform of one dimension has this many values
abbrev pub IsTransformSide : ℕ → Type 0
IsTransformSide n = (n ≡ 4) ⊎ ((n ≡ 8) ⊎ ((n ≡ 16) ⊎ ((n ≡ 32) ⊎ (n ≡ 64))))
