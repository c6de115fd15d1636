-- The sample at each place round a block. `sample x y` is the number of the sample at column x of row y.
-- AV1 specification: intra prediction process: general, the preparation of the arrays AboveRow and LeftCol.
use Rattle.std.specs.Prelude.{ℕ, zero, suc, ◌+◌, ◌-◌, ◌*◌, ◌/◌, ◌^◌, Bool, nat_lt, min, if◌then◌else◌}

-- half of the range of samples of this depth
abbrev pub base : ℕ → ℕ
base depth = 128 * 2 ^ (depth - 8)

-- n if b is true, else 0
abbrev pub where_needed : Bool → ℕ → ℕ
where_needed b n = if b then n else 0

-- the number of available samples of a side whose `count` places begin at `first`: those before `limit`, and, if the
-- side goes on, also those of a run after them
abbrev pub num_avail : (limit first count : ℕ) → Bool → (run : ℕ) → ℕ
num_avail limit first count goes_on run =
    min count (limit - first) + where_needed goes_on (min run (limit - first - count))

-- Place j above a block at column x of row y, if n samples of the row above are available. It is one of these, and past
-- the last one the last again. In the first row it is the sample to the left of the block, and in the first column of
-- that row half of the range less 1.
abbrev pub above_at : (ℕ → ℕ → ℕ) → (half x y n : ℕ) → ℕ → ℕ
above_at sample half x y n j =
    if nat_lt 0 y then sample (x + min j (n - 1)) (y - 1)
    else (if nat_lt 0 x then sample (x - 1) 0 else half - 1)

-- Place i to the left of a block, counted from the top down, in the same way: a sample of the column to the left. In
-- the first column it is the sample above the block, and in the first row of that column half of the range plus 1.
abbrev pub left_at : (ℕ → ℕ → ℕ) → (half x y n : ℕ) → ℕ → ℕ
left_at sample half x y n i =
    if nat_lt 0 x then sample (x - 1) (y + min i (n - 1))
    else (if nat_lt 0 y then sample 0 (y - 1) else half + 1)

-- The corner above and to the left of a block. In the first row it is the sample to the left of the block, in the first
-- column the one above it, and at both half of the range.
abbrev pub corner_at : (ℕ → ℕ → ℕ) → (half x y : ℕ) → ℕ
corner_at sample half zero zero = half
corner_at sample half (suc x) zero = sample x 0
corner_at sample half zero (suc y) = sample 0 y
corner_at sample half (suc x) (suc y) = sample x y

-- the corner, smoothed by the first sample to the left and the first above (the filter corner process)
abbrev pub smoothed : (left corner above : ℕ) → ℕ
smoothed left corner above = (5 * left + 6 * corner + 5 * above + 8) / 16
