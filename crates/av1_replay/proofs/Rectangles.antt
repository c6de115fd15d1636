-- How many samples rectangles have.
use Rattle.std.proofs.Common.{ℕ, ◌*◌, ◌≤◌}
use Rattle.std.proofs.lemmas.Nat.{mul-le}

-- a rectangle with its margins
pub places_few : (rows columns : ℕ) → rows ≤ 767 → columns ≤ 1022 → rows * columns ≤ 783874
places_few rows columns a b = mul-le rows columns 767 1022 a b

-- a product of sides, each a byte and a few more
pub bytes_few : (rows columns : ℕ) → rows ≤ 262 → columns ≤ 262 → rows * columns ≤ 68644
bytes_few rows columns a b = mul-le rows columns 262 262 a b
