-- Every prepared value fits 16 bits.
use Rattle.std.proofs.Common.{ℕ, zero, suc, ◌+◌, ◌^◌, ◌<◌, arith, ℤ, List, w16, FitsSigned}
use Rattle.av1_inter.specs.Motion.{prepared}
use Rattle.av1_blocks.specs.Depths.{IsDepth}
use Rattle.av1_inter.specs.Scaffolding.{IsFilter}
use Rattle.av1_inter.proofs.Reach.{down_fits, intermediate_fits}

pub prepared_fits : (depth : ℕ) → IsDepth depth → (fx fy : ℕ) (across down : List ℤ) (samples : ℕ → ℕ → ℕ) (r c : ℕ) → IsFilter across → IsFilter down →
    ((x y : ℕ) → x < c + 8 → y < r + 8 → samples x y < 2 ^ depth) → FitsSigned w16 (prepared depth fx fy across down samples r c)
prepared_fits depth d fx zero across down samples r c f g h =
    intermediate_fits depth d fx across (λ x. samples x (r + 3)) c f (λ t l. h (c + t) (r + 3) (omega arith) (omega arith))
prepared_fits depth d zero (suc k) across down samples r c f g h =
    intermediate_fits depth d 1 down (λ t. samples (c + 3) t) r g (λ t l. h (c + 3) (r + t) (omega arith) (omega arith))
prepared_fits depth d (suc j) (suc k) across down samples r c f g h = down_fits depth d (suc j) across down samples r c f g h
