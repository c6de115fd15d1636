-- Values shifted by a signed number of bits.
use Rattle.std.specs.Prelude.{zero, suc, ◌^◌, ◌/◌, ℤ, pos, negsuc, ◌+ℤ◌, ◌*ℤ◌, ◌<ℤ◌}
use Rattle.av1_dct.specs.Arithmetic.{wrap32}
use Rattle.av1_frame.specs.Arithmetic.{round_shift}

-- v shifted by `bit`: to the right with rounding if `bit` is positive, to the left and wrapped at 32 bits if it is
-- negative
abbrev pub shifted : ℤ → ℤ → ℤ
shifted (pos zero) v = v
shifted (pos (suc b)) v = round_shift v (suc b)
shifted (negsuc b) v = wrap32 (v *ℤ pos (2 ^ suc b))

-- the sum that is rounded is less than 2 ^ 31
abbrev pub SumFits : ℤ → ℤ → Type 0
SumFits (pos b) v = (v +ℤ pos (2 ^ b / 2)) <ℤ pos (2 ^ 31)
SumFits (negsuc b) v = Unit {0}
