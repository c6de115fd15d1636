-- Smooth prediction. AV1 specification: smooth intra prediction process.
use Rattle.std.specs.Prelude.{ℕ, ◌+◌, ◌-◌, ◌*◌, ◌/◌, ◌==◌, List, [], ◌∷◌, if◌then◌else◌, slice_index}
use Rattle.av1_intra.specs.Sides.{Side}

-- the weights of the places of a side of n, in 256ths (Sm_Weights_Tx_4x4 to Sm_Weights_Tx_64x64); no block has another
-- side
unfoldable pub weights : ℕ → List ℕ
weights n =
    if n == 4 then 255 ∷ 149 ∷ 85 ∷ 64 ∷ []
    else if n == 8 then 255 ∷ 197 ∷ 146 ∷ 105 ∷ 73 ∷ 50 ∷ 37 ∷ 32 ∷ []
    else if n == 16 then 255 ∷ 225 ∷ 196 ∷ 170 ∷ 145 ∷ 123 ∷ 102 ∷ 84 ∷ 68 ∷ 54 ∷ 43 ∷ 33 ∷ 26 ∷ 20 ∷ 17 ∷ 16 ∷ []
    else if n == 32 then 255 ∷ 240 ∷ 225 ∷ 210 ∷ 196 ∷ 182 ∷ 169 ∷ 157 ∷ 145 ∷ 133 ∷ 122 ∷ 111 ∷ 101 ∷ 92 ∷ 83 ∷ 74 ∷
    66 ∷ 59 ∷ 52 ∷ 45 ∷ 39 ∷ 34 ∷ 29 ∷ 25 ∷ 21 ∷ 17 ∷ 14 ∷ 12 ∷ 10 ∷ 9 ∷ 8 ∷ 8 ∷ []
    else if n == 64 then 255 ∷ 248 ∷ 240 ∷ 233 ∷ 225 ∷ 218 ∷ 210 ∷ 203 ∷ 196 ∷ 189 ∷ 182 ∷ 176 ∷ 169 ∷ 163 ∷ 156 ∷ 150 ∷
    144 ∷ 138 ∷ 133 ∷ 127 ∷ 121 ∷ 116 ∷ 111 ∷ 106 ∷ 101 ∷ 96 ∷ 91 ∷ 86 ∷ 82 ∷ 77 ∷ 73 ∷ 69 ∷ 65 ∷ 61 ∷ 57 ∷ 54 ∷
    50 ∷ 47 ∷ 44 ∷ 41 ∷ 38 ∷ 35 ∷ 32 ∷ 29 ∷ 27 ∷ 25 ∷ 22 ∷ 20 ∷ 18 ∷ 16 ∷ 15 ∷ 13 ∷ 12 ∷ 10 ∷ 9 ∷ 8 ∷ 7 ∷ 6 ∷ 6 ∷
    5 ∷ 5 ∷ 4 ∷ 4 ∷ 4 ∷ []
    else []

-- 256 times a weighted mean: a by a weight in 256ths, and b by the rest
abbrev pub mix : ℕ → ℕ → ℕ → ℕ
mix weight a b = weight * a + (256 - weight) * b

-- 256 times the mean in row r of h, between a sample above and the lowest one on the left
abbrev pub down : ℕ → Side → Side → ℕ → ℕ → ℕ
down h above left r c = mix (slice_index (weights h) r) (above c) (left (h - 1))

-- 256 times the mean in column c of w, between a sample on the left and the last one above
abbrev pub across : ℕ → Side → Side → ℕ → ℕ → ℕ
across w above left r c = mix (slice_index (weights w) c) (left r) (above (w - 1))

-- the sample at row r and column c of a block of w columns and h rows: the mean of both, rounded
abbrev pub smooth : ℕ → ℕ → Side → Side → ℕ → ℕ → ℕ
smooth w h above left r c = (down h above left r c + across w above left r c + 256) / 512

-- the same with only the mean along the columns
abbrev pub smooth_v : ℕ → Side → Side → ℕ → ℕ → ℕ
smooth_v h above left r c = (down h above left r c + 128) / 256

-- the same with only the mean along the rows
abbrev pub smooth_h : ℕ → Side → Side → ℕ → ℕ → ℕ
smooth_h w above left r c = (across w above left r c + 128) / 256
