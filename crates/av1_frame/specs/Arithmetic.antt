-- Rounding and clipping of samples.
use Rattle.std.specs.Prelude.{ℕ, ◌-◌, ◌/◌, ◌^◌, ℤ, pos, negsuc, ◌+ℤ◌, min}
use Rattle.std.specs.Int.{int_shr}

-- v / 2^bit, rounded to the nearest number, and up if two are equally near (the specification's Round2)
abbrev pub round_shift : ℤ → ℕ → ℤ
round_shift v bit = int_shr (v +ℤ pos (2 ^ bit / 2)) bit

-- the number of a sample of this depth, 0 .. 2^depth - 1, that is nearest to v (the specification's Clip1)
abbrev pub clip : ℕ → ℤ → ℕ
clip depth (pos n) = min n (2 ^ depth - 1)
clip depth (negsuc n) = 0
