-- The interpolation filters of motion compensation: their weights at the offsets -3 to 4, in parts of 128, for each
-- sixteenth of the way from one sample to the next.
use Rattle.std.specs.Prelude.{◌≡◌, ℕ, ◌*◌, ◌-◌, ℤ, pos, neg_ℤ, ◌+ℤ◌, List, [], ◌∷◌, map}
use Rattle.av1_blocks.specs.declared.mc.FilterMode.{FilterMode}
use Rattle.av1_blocks.specs.declared.mc.FilterMode.TheVariants.{REGULAR, SMOOTH, SHARP, BILINEAR, SWITCHABLE}

-- The number of a filter mode.
abbrev pub filter_number : FilterMode → ℕ
filter_number REGULAR = 0
filter_number SMOOTH = 1
filter_number SHARP = 2
filter_number BILINEAR = 3
filter_number SWITCHABLE = 4

-- A weight below zero.
abbrev pub minus : ℕ → ℤ
minus n = neg_ℤ (pos n)

-- The regular filters.
abbrev pub regular : List (List ℤ)
regular =
    (pos 0 ∷ pos 0 ∷ pos 0 ∷ pos 128 ∷ pos 0 ∷ pos 0 ∷ pos 0 ∷ pos 0 ∷ []) ∷
    (pos 0 ∷ pos 2 ∷ minus 6 ∷ pos 126 ∷ pos 8 ∷ minus 2 ∷ pos 0 ∷ pos 0 ∷ []) ∷
    (pos 0 ∷ pos 2 ∷ minus 10 ∷ pos 122 ∷ pos 18 ∷ minus 4 ∷ pos 0 ∷ pos 0 ∷ []) ∷
    (pos 0 ∷ pos 2 ∷ minus 12 ∷ pos 116 ∷ pos 28 ∷ minus 8 ∷ pos 2 ∷ pos 0 ∷ []) ∷
    (pos 0 ∷ pos 2 ∷ minus 14 ∷ pos 110 ∷ pos 38 ∷ minus 10 ∷ pos 2 ∷ pos 0 ∷ []) ∷
    (pos 0 ∷ pos 2 ∷ minus 14 ∷ pos 102 ∷ pos 48 ∷ minus 12 ∷ pos 2 ∷ pos 0 ∷ []) ∷
    (pos 0 ∷ pos 2 ∷ minus 16 ∷ pos 94 ∷ pos 58 ∷ minus 12 ∷ pos 2 ∷ pos 0 ∷ []) ∷
    (pos 0 ∷ pos 2 ∷ minus 14 ∷ pos 84 ∷ pos 66 ∷ minus 12 ∷ pos 2 ∷ pos 0 ∷ []) ∷
    (pos 0 ∷ pos 2 ∷ minus 14 ∷ pos 76 ∷ pos 76 ∷ minus 14 ∷ pos 2 ∷ pos 0 ∷ []) ∷
    (pos 0 ∷ pos 2 ∷ minus 12 ∷ pos 66 ∷ pos 84 ∷ minus 14 ∷ pos 2 ∷ pos 0 ∷ []) ∷
    (pos 0 ∷ pos 2 ∷ minus 12 ∷ pos 58 ∷ pos 94 ∷ minus 16 ∷ pos 2 ∷ pos 0 ∷ []) ∷
    (pos 0 ∷ pos 2 ∷ minus 12 ∷ pos 48 ∷ pos 102 ∷ minus 14 ∷ pos 2 ∷ pos 0 ∷ []) ∷
    (pos 0 ∷ pos 2 ∷ minus 10 ∷ pos 38 ∷ pos 110 ∷ minus 14 ∷ pos 2 ∷ pos 0 ∷ []) ∷
    (pos 0 ∷ pos 2 ∷ minus 8 ∷ pos 28 ∷ pos 116 ∷ minus 12 ∷ pos 2 ∷ pos 0 ∷ []) ∷
    (pos 0 ∷ pos 0 ∷ minus 4 ∷ pos 18 ∷ pos 122 ∷ minus 10 ∷ pos 2 ∷ pos 0 ∷ []) ∷
    (pos 0 ∷ pos 0 ∷ minus 2 ∷ pos 8 ∷ pos 126 ∷ minus 6 ∷ pos 2 ∷ pos 0 ∷ []) ∷
    []

-- The smooth filters.
abbrev pub smooth : List (List ℤ)
smooth =
    (pos 0 ∷ pos 0 ∷ pos 0 ∷ pos 128 ∷ pos 0 ∷ pos 0 ∷ pos 0 ∷ pos 0 ∷ []) ∷
    (pos 0 ∷ pos 2 ∷ pos 28 ∷ pos 62 ∷ pos 34 ∷ pos 2 ∷ pos 0 ∷ pos 0 ∷ []) ∷
    (pos 0 ∷ pos 0 ∷ pos 26 ∷ pos 62 ∷ pos 36 ∷ pos 4 ∷ pos 0 ∷ pos 0 ∷ []) ∷
    (pos 0 ∷ pos 0 ∷ pos 22 ∷ pos 62 ∷ pos 40 ∷ pos 4 ∷ pos 0 ∷ pos 0 ∷ []) ∷
    (pos 0 ∷ pos 0 ∷ pos 20 ∷ pos 60 ∷ pos 42 ∷ pos 6 ∷ pos 0 ∷ pos 0 ∷ []) ∷
    (pos 0 ∷ pos 0 ∷ pos 18 ∷ pos 58 ∷ pos 44 ∷ pos 8 ∷ pos 0 ∷ pos 0 ∷ []) ∷
    (pos 0 ∷ pos 0 ∷ pos 16 ∷ pos 56 ∷ pos 46 ∷ pos 10 ∷ pos 0 ∷ pos 0 ∷ []) ∷
    (pos 0 ∷ minus 2 ∷ pos 16 ∷ pos 54 ∷ pos 48 ∷ pos 12 ∷ pos 0 ∷ pos 0 ∷ []) ∷
    (pos 0 ∷ minus 2 ∷ pos 14 ∷ pos 52 ∷ pos 52 ∷ pos 14 ∷ minus 2 ∷ pos 0 ∷ []) ∷
    (pos 0 ∷ pos 0 ∷ pos 12 ∷ pos 48 ∷ pos 54 ∷ pos 16 ∷ minus 2 ∷ pos 0 ∷ []) ∷
    (pos 0 ∷ pos 0 ∷ pos 10 ∷ pos 46 ∷ pos 56 ∷ pos 16 ∷ pos 0 ∷ pos 0 ∷ []) ∷
    (pos 0 ∷ pos 0 ∷ pos 8 ∷ pos 44 ∷ pos 58 ∷ pos 18 ∷ pos 0 ∷ pos 0 ∷ []) ∷
    (pos 0 ∷ pos 0 ∷ pos 6 ∷ pos 42 ∷ pos 60 ∷ pos 20 ∷ pos 0 ∷ pos 0 ∷ []) ∷
    (pos 0 ∷ pos 0 ∷ pos 4 ∷ pos 40 ∷ pos 62 ∷ pos 22 ∷ pos 0 ∷ pos 0 ∷ []) ∷
    (pos 0 ∷ pos 0 ∷ pos 4 ∷ pos 36 ∷ pos 62 ∷ pos 26 ∷ pos 0 ∷ pos 0 ∷ []) ∷
    (pos 0 ∷ pos 0 ∷ pos 2 ∷ pos 34 ∷ pos 62 ∷ pos 28 ∷ pos 2 ∷ pos 0 ∷ []) ∷
    []

-- The sharp filters.
abbrev pub sharp : List (List ℤ)
sharp =
    (pos 0 ∷ pos 0 ∷ pos 0 ∷ pos 128 ∷ pos 0 ∷ pos 0 ∷ pos 0 ∷ pos 0 ∷ []) ∷
    (minus 2 ∷ pos 2 ∷ minus 6 ∷ pos 126 ∷ pos 8 ∷ minus 2 ∷ pos 2 ∷ pos 0 ∷ []) ∷
    (minus 2 ∷ pos 6 ∷ minus 12 ∷ pos 124 ∷ pos 16 ∷ minus 6 ∷ pos 4 ∷ minus 2 ∷ []) ∷
    (minus 2 ∷ pos 8 ∷ minus 18 ∷ pos 120 ∷ pos 26 ∷ minus 10 ∷ pos 6 ∷ minus 2 ∷ []) ∷
    (minus 4 ∷ pos 10 ∷ minus 22 ∷ pos 116 ∷ pos 38 ∷ minus 14 ∷ pos 6 ∷ minus 2 ∷ []) ∷
    (minus 4 ∷ pos 10 ∷ minus 22 ∷ pos 108 ∷ pos 48 ∷ minus 18 ∷ pos 8 ∷ minus 2 ∷ []) ∷
    (minus 4 ∷ pos 10 ∷ minus 24 ∷ pos 100 ∷ pos 60 ∷ minus 20 ∷ pos 8 ∷ minus 2 ∷ []) ∷
    (minus 4 ∷ pos 10 ∷ minus 24 ∷ pos 90 ∷ pos 70 ∷ minus 22 ∷ pos 10 ∷ minus 2 ∷ []) ∷
    (minus 4 ∷ pos 12 ∷ minus 24 ∷ pos 80 ∷ pos 80 ∷ minus 24 ∷ pos 12 ∷ minus 4 ∷ []) ∷
    (minus 2 ∷ pos 10 ∷ minus 22 ∷ pos 70 ∷ pos 90 ∷ minus 24 ∷ pos 10 ∷ minus 4 ∷ []) ∷
    (minus 2 ∷ pos 8 ∷ minus 20 ∷ pos 60 ∷ pos 100 ∷ minus 24 ∷ pos 10 ∷ minus 4 ∷ []) ∷
    (minus 2 ∷ pos 8 ∷ minus 18 ∷ pos 48 ∷ pos 108 ∷ minus 22 ∷ pos 10 ∷ minus 4 ∷ []) ∷
    (minus 2 ∷ pos 6 ∷ minus 14 ∷ pos 38 ∷ pos 116 ∷ minus 22 ∷ pos 10 ∷ minus 4 ∷ []) ∷
    (minus 2 ∷ pos 6 ∷ minus 10 ∷ pos 26 ∷ pos 120 ∷ minus 18 ∷ pos 8 ∷ minus 2 ∷ []) ∷
    (minus 2 ∷ pos 4 ∷ minus 6 ∷ pos 16 ∷ pos 124 ∷ minus 12 ∷ pos 6 ∷ minus 2 ∷ []) ∷
    (pos 0 ∷ pos 2 ∷ minus 2 ∷ pos 8 ∷ pos 126 ∷ minus 6 ∷ pos 2 ∷ minus 2 ∷ []) ∷
    []

-- The bilinear filter of a sixteenth.
abbrev pub bilinear_row : (sixteenth : ℕ) → List ℤ
bilinear_row f = pos 0 ∷ pos 0 ∷ pos 0 ∷ pos (128 - 8 * f) ∷ pos (8 * f) ∷ pos 0 ∷ pos 0 ∷ pos 0 ∷ []

-- The bilinear filters.
abbrev pub bilinear : List (List ℤ)
bilinear = map bilinear_row (0 ∷ 1 ∷ 2 ∷ 3 ∷ 4 ∷ 5 ∷ 6 ∷ 7 ∷ 8 ∷ 9 ∷ 10 ∷ 11 ∷ 12 ∷ 13 ∷ 14 ∷ 15 ∷ [])

-- The regular filters of sides up to 4.
abbrev pub regular_of_four : List (List ℤ)
regular_of_four =
    (pos 0 ∷ pos 0 ∷ pos 0 ∷ pos 128 ∷ pos 0 ∷ pos 0 ∷ pos 0 ∷ pos 0 ∷ []) ∷
    (pos 0 ∷ pos 0 ∷ minus 4 ∷ pos 126 ∷ pos 8 ∷ minus 2 ∷ pos 0 ∷ pos 0 ∷ []) ∷
    (pos 0 ∷ pos 0 ∷ minus 8 ∷ pos 122 ∷ pos 18 ∷ minus 4 ∷ pos 0 ∷ pos 0 ∷ []) ∷
    (pos 0 ∷ pos 0 ∷ minus 10 ∷ pos 116 ∷ pos 28 ∷ minus 6 ∷ pos 0 ∷ pos 0 ∷ []) ∷
    (pos 0 ∷ pos 0 ∷ minus 12 ∷ pos 110 ∷ pos 38 ∷ minus 8 ∷ pos 0 ∷ pos 0 ∷ []) ∷
    (pos 0 ∷ pos 0 ∷ minus 12 ∷ pos 102 ∷ pos 48 ∷ minus 10 ∷ pos 0 ∷ pos 0 ∷ []) ∷
    (pos 0 ∷ pos 0 ∷ minus 14 ∷ pos 94 ∷ pos 58 ∷ minus 10 ∷ pos 0 ∷ pos 0 ∷ []) ∷
    (pos 0 ∷ pos 0 ∷ minus 12 ∷ pos 84 ∷ pos 66 ∷ minus 10 ∷ pos 0 ∷ pos 0 ∷ []) ∷
    (pos 0 ∷ pos 0 ∷ minus 12 ∷ pos 76 ∷ pos 76 ∷ minus 12 ∷ pos 0 ∷ pos 0 ∷ []) ∷
    (pos 0 ∷ pos 0 ∷ minus 10 ∷ pos 66 ∷ pos 84 ∷ minus 12 ∷ pos 0 ∷ pos 0 ∷ []) ∷
    (pos 0 ∷ pos 0 ∷ minus 10 ∷ pos 58 ∷ pos 94 ∷ minus 14 ∷ pos 0 ∷ pos 0 ∷ []) ∷
    (pos 0 ∷ pos 0 ∷ minus 10 ∷ pos 48 ∷ pos 102 ∷ minus 12 ∷ pos 0 ∷ pos 0 ∷ []) ∷
    (pos 0 ∷ pos 0 ∷ minus 8 ∷ pos 38 ∷ pos 110 ∷ minus 12 ∷ pos 0 ∷ pos 0 ∷ []) ∷
    (pos 0 ∷ pos 0 ∷ minus 6 ∷ pos 28 ∷ pos 116 ∷ minus 10 ∷ pos 0 ∷ pos 0 ∷ []) ∷
    (pos 0 ∷ pos 0 ∷ minus 4 ∷ pos 18 ∷ pos 122 ∷ minus 8 ∷ pos 0 ∷ pos 0 ∷ []) ∷
    (pos 0 ∷ pos 0 ∷ minus 2 ∷ pos 8 ∷ pos 126 ∷ minus 4 ∷ pos 0 ∷ pos 0 ∷ []) ∷
    []

-- The smooth filters of sides up to 4.
abbrev pub smooth_of_four : List (List ℤ)
smooth_of_four =
    (pos 0 ∷ pos 0 ∷ pos 0 ∷ pos 128 ∷ pos 0 ∷ pos 0 ∷ pos 0 ∷ pos 0 ∷ []) ∷
    (pos 0 ∷ pos 0 ∷ pos 30 ∷ pos 62 ∷ pos 34 ∷ pos 2 ∷ pos 0 ∷ pos 0 ∷ []) ∷
    (pos 0 ∷ pos 0 ∷ pos 26 ∷ pos 62 ∷ pos 36 ∷ pos 4 ∷ pos 0 ∷ pos 0 ∷ []) ∷
    (pos 0 ∷ pos 0 ∷ pos 22 ∷ pos 62 ∷ pos 40 ∷ pos 4 ∷ pos 0 ∷ pos 0 ∷ []) ∷
    (pos 0 ∷ pos 0 ∷ pos 20 ∷ pos 60 ∷ pos 42 ∷ pos 6 ∷ pos 0 ∷ pos 0 ∷ []) ∷
    (pos 0 ∷ pos 0 ∷ pos 18 ∷ pos 58 ∷ pos 44 ∷ pos 8 ∷ pos 0 ∷ pos 0 ∷ []) ∷
    (pos 0 ∷ pos 0 ∷ pos 16 ∷ pos 56 ∷ pos 46 ∷ pos 10 ∷ pos 0 ∷ pos 0 ∷ []) ∷
    (pos 0 ∷ pos 0 ∷ pos 14 ∷ pos 54 ∷ pos 48 ∷ pos 12 ∷ pos 0 ∷ pos 0 ∷ []) ∷
    (pos 0 ∷ pos 0 ∷ pos 12 ∷ pos 52 ∷ pos 52 ∷ pos 12 ∷ pos 0 ∷ pos 0 ∷ []) ∷
    (pos 0 ∷ pos 0 ∷ pos 12 ∷ pos 48 ∷ pos 54 ∷ pos 14 ∷ pos 0 ∷ pos 0 ∷ []) ∷
    (pos 0 ∷ pos 0 ∷ pos 10 ∷ pos 46 ∷ pos 56 ∷ pos 16 ∷ pos 0 ∷ pos 0 ∷ []) ∷
    (pos 0 ∷ pos 0 ∷ pos 8 ∷ pos 44 ∷ pos 58 ∷ pos 18 ∷ pos 0 ∷ pos 0 ∷ []) ∷
    (pos 0 ∷ pos 0 ∷ pos 6 ∷ pos 42 ∷ pos 60 ∷ pos 20 ∷ pos 0 ∷ pos 0 ∷ []) ∷
    (pos 0 ∷ pos 0 ∷ pos 4 ∷ pos 40 ∷ pos 62 ∷ pos 22 ∷ pos 0 ∷ pos 0 ∷ []) ∷
    (pos 0 ∷ pos 0 ∷ pos 4 ∷ pos 36 ∷ pos 62 ∷ pos 26 ∷ pos 0 ∷ pos 0 ∷ []) ∷
    (pos 0 ∷ pos 0 ∷ pos 2 ∷ pos 34 ∷ pos 62 ∷ pos 30 ∷ pos 0 ∷ pos 0 ∷ []) ∷
    []

-- All of them, by family.
abbrev pub subpel_filters : List (List (List ℤ))
subpel_filters = regular ∷ smooth ∷ sharp ∷ bilinear ∷ regular_of_four ∷ smooth_of_four ∷ []

-- The sum of weights.
abbrev pub weight : List ℤ → ℤ
weight [] = pos 0
weight (tap ∷ taps) = tap +ℤ weight taps

-- The weights keep a sample that all of them see.
abbrev pub IsWhole : List ℤ → Type 0
IsWhole taps = weight taps ≡ pos 128
