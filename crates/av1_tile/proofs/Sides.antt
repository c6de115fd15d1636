-- The bound of the samples of a plane.
use Rattle.std.proofs.Common.{ℕ, ◌^◌, ◌<◌, ◌≤◌, arith, List, All}
use Rattle.std.proofs.Math.Nat.{pow-le-pow_right}

-- samples of a depth fit every number of bits from it on
pub fit_bits : (samples : List ℕ) (depth bits : ℕ) → depth ≤ bits → All (λ sample. sample < 2 ^ depth) samples → All (λ sample. sample < 2 ^ bits) samples
fit_bits samples depth bits h below = λ k d l.
    let wide : 2 ^ depth ≤ 2 ^ bits = pow-le-pow_right (omega arith) h in
    let low = below k d l in
    omega (arith, low, wide)
