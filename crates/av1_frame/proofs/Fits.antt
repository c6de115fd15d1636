-- The rows of a rectangle lie in storage.
use Rattle.std.proofs.Common.{ℕ, ◌+◌, ◌*◌, ◌<◌, ◌≤◌, ◌≡◌, ◌/◌, ◌^◌, arith, inl, inr, lit<, lit≤}
use Rattle.std.proofs.lemmas.Bool.{cases_eq}
use Rattle.av1_frame.specs.declared.plane_region.StoredArea.{StoredArea}
use Rattle.av1_frame.specs.declared.plane.PlaneConfig.{PlaneConfig}
use Rattle.av1_frame.specs.Areas.{AreaFits}

pub row_end_le : (q h s c n : ℕ) → n ≡ h * s → q < h → c ≤ s → q * s + c ≤ n
row_end_le q h s c n e p r = grind arith

-- row y of the rectangle a ends in storage
pub row_fits : (a : StoredArea) (cfg : PlaneConfig) (n y : ℕ) → AreaFits a cfg n → y < a.height → (a.y + y) * cfg.stride + a.x + a.width ≤ n
row_fits a cfg n y f h =
    let e = row_end_le (a.y + y) cfg.alloc_height cfg.stride (a.x + a.width) n f.storage.fills (omega (arith, f.rows)) f.columns in
    omega (arith, e)

-- a plane's blocks are 64 or 32 samples wide
pub block_side : (d : ℕ) → d ≤ 1 → (0 < 64 / 2 ^ d) × (64 / 2 ^ d ≤ 64)
block_side d h =
    elim (cases_eq d 0) [
      | inl e ↦ rw e (lit< tt, lit≤ tt)
      | inr e ↦ (let f : d ≡ 1 = omega arith in rw f (lit< tt, lit≤ tt))
    ]

pub rows_le : (q h s n : ℕ) → n ≡ h * s → q ≤ h → q * s ≤ n
rows_le q h s n e p = grind arith
