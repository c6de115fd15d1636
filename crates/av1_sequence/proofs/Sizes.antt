-- How many samples and bytes there are at most.
use Rattle.std.proofs.Common.{ℕ, ◌*◌, ◌≤◌, ◌^◌, arith}

pub eight_times : (a b : ℕ) → a ≤ 8 → a * b ≤ 8 * b
eight_times a b le = grind arith

side_times : (a b : ℕ) → a ≤ 2048 → a * b ≤ 2048 * b
side_times a b le = grind arith

-- sides of 2048
pub product_small : (a b : ℕ) → a ≤ 2048 → b ≤ 2048 → a * b ≤ 2 ^ 22
product_small a b la lb = omega (arith, side_times a b la, lb)
