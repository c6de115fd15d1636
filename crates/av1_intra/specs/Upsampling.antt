-- Upsampling: twice the places of a side, before it is interpolated.
use Rattle.std.specs.Prelude.{ℕ, ◌+◌, ◌-◌, ◌*◌, ◌/◌, ◌%◌, ◌==◌, Bool, ◌&&◌, nat_le, nat_lt, if◌then◌else◌, min, pos}
use Rattle.av1_frame.specs.Arithmetic.{clip}
use Rattle.av1_intra.specs.Sides.{Side}

-- Whether a side is upsampled, by the sum s of the block's width and height, whether a neighbour is smooth, and the
-- degrees d from the side's own angle. AV1 specification: intra edge upsample selection process.
abbrev pub is_upsampled : ℕ → Bool → ℕ → Bool
is_upsampled s smooth d = (nat_le 1 d && nat_le d 39) && nat_le s (if smooth then 8 else 16)

-- Twice as many entries for the corner and the first m places. Entry 2e is the old entry e. Entry 2e + 1 is computed
-- from four entries, two on either side, and clipped to the depth; a difference below 0 counts as 0. Entries past 2m
-- are unchanged. AV1 specification: intra edge upsample process.
unfoldable pub upsampled : ℕ → ℕ → Side → Side
upsampled depth m A = λ e.
    let h = e / 2 in
    if nat_lt (2 * m) e then A e
    else if e % 2 == 0 then A h
    else clip depth (pos ((9 * A h + 9 * A (h + 1) + 8 - (A (h - 1) + A (min (h + 2) m))) / 16))
