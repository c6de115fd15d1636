-- What follows of a depth.
use Rattle.std.proofs.Common.{ℕ, ◌≤◌, inl, inr, arith}
use Rattle.av1_blocks.specs.Depths.{IsDepth}

-- no depth is below 8
pub least_depth : (depth : ℕ) → IsDepth depth → 8 ≤ depth
least_depth depth (inl e) = omega (arith, e)
least_depth depth (inr (inl e)) = omega (arith, e)
least_depth depth (inr (inr e)) = omega (arith, e)
