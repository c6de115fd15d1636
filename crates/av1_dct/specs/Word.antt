-- Lanes of vectors.
use Rattle.std.specs.Prelude.{ℕ, ◌-◌, nat_lt, if◌then◌else◌, ℤ, List, map, slice_index_or}
use Rattle.std.specs.Int.{w16, w32, cast_signed, cast_unsigned}

-- lane i of a vector of i32, as an i32
unfoldable pub lane_of_vector : List ℤ → ℕ → ℤ
lane_of_vector v i = cast_signed w32 (slice_index_or (map (cast_unsigned w32) v) i 0)

-- lane i of a vector of i16, as an i16
unfoldable pub lane_of_short : List ℤ → ℕ → ℤ
lane_of_short v i = cast_signed w16 (slice_index_or (map (cast_unsigned w16) v) i 0)

-- lane i of eight of 32 bits in two vectors of four: lanes 0 to 3 are those of lo, 4 to 7 those of hi
unfoldable pub lane_of_pair : (lo hi : List ℤ) → ℕ → ℤ
lane_of_pair lo hi i = if nat_lt i 4 then lane_of_vector lo i else lane_of_vector hi (i - 4)

-- lane i of each of a list of words
abbrev pub column : {W : Type 0} → (W → ℕ → ℤ) → ℕ → List W → List ℤ
column lane i ws = map (λ w. lane w i) ws
