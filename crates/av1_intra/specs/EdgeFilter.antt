-- The filter of a side before it is interpolated. A side gives a number for each entry here: entry 0 is the corner, and
-- entry k + 1 is place k. Each side is filtered, also one that is missing, which AV1 leaves as it is. That gives the
-- same numbers: a missing side has one number, and its corner differs from it by at most 1, which the rounded means
-- keep. No d is 0 here, since angles of 90 and 180 copy a side.
use Rattle.std.specs.Prelude.{ℕ, ◌+◌, ◌-◌, ◌*◌, ◌/◌, ◌==◌, List, [], ◌∷◌, Bool, true, false, ◌&&◌, nat_le, nat_lt}
use Rattle.std.specs.Prelude.{if◌then◌else◌, min}
use Rattle.av1_intra.specs.Sides.{Side}

-- How strongly a side is smoothed, by the sum s of the block's width and height, whether a neighbour is smooth, and the
-- degrees d from the side's own angle. AV1 specification: intra edge filter strength selection process.
abbrev pub filter_strength : ℕ → Bool → ℕ → ℕ
filter_strength s true d =
    if nat_le s 8 then (if nat_le 64 d then 2 else if nat_le 40 d then 1 else 0)
    else if nat_le s 16 then (if nat_le 48 d then 2 else if nat_le 20 d then 1 else 0)
    else if nat_le s 24 then (if nat_le 4 d then 3 else 0)
    else 3
filter_strength s false d =
    if nat_le s 8 then (if nat_le 56 d then 1 else 0)
    else if nat_le s 16 then (if nat_le 40 d then 1 else 0)
    else if nat_le s 24 then (if nat_le 32 d then 3 else if nat_le 16 d then 2 else if nat_le 8 d then 1 else 0)
    else if nat_le s 32 then (if nat_le 32 d then 3 else if nat_le 4 d then 2 else 1)
    else 3

-- the five weights of a strength from 1 to 3, in 16ths (Intra_Edge_Kernel)
abbrev pub kernel : ℕ → List ℕ
kernel strength =
    if strength == 1 then 0 ∷ 4 ∷ 8 ∷ 4 ∷ 0 ∷ []
    else if strength == 2 then 0 ∷ 5 ∷ 6 ∷ 5 ∷ 0 ∷ []
    else 2 ∷ 4 ∷ 4 ∷ 4 ∷ 2 ∷ []

-- the sum of the weights times the numbers f j, f (j + 1) and so on
abbrev pub weighted : List ℕ → ℕ → (ℕ → ℕ) → ℕ
weighted [] j f = 0
weighted (w ∷ ws) j f = w * f j + weighted ws (j + 1) f

-- The first n places of a side smoothed: each becomes the weighted mean of itself and two entries on either side. Past
-- the corner and past place n - 1 these two are repeated. The corner and all other places are unchanged. AV1
-- specification: intra edge filter process.
unfoldable pub filtered : ℕ → ℕ → Side → Side
filtered n strength A = λ e.
    if (nat_lt 0 strength && nat_le 1 e) && nat_le e n
    then (weighted (kernel strength) 0 (λ j. A (min (e + j - 2) n)) + 8) / 16
    else A e
