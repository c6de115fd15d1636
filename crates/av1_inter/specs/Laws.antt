-- Theorems about motion compensation.
use Rattle.std.specs.Prelude.{◌≡◌, ℕ, ◌+◌, ◌^◌, ◌<◌, FitsSigned}
use Rattle.std.specs.Int.{w16}
use Rattle.av1_blocks.specs.declared.mc.FilterMode.{FilterMode}
use Rattle.av1_inter.specs.Filters.{filter_of}
use Rattle.av1_inter.specs.Motion.{prepared, single}
use Rattle.av1_blocks.specs.Depths.{IsDepth}

-- If all samples under the taps of a sample have one value, the prediction is that value, at every fraction and with
-- every filter. The weights of each filter sum to 128, and no rounding changes such a sum.
abbrev pub ConstantsStay : Type 0
ConstantsStay =
    (depth fx fy : ℕ) (mode_x mode_y : FilterMode) (width height : ℕ) (samples : ℕ → ℕ → ℕ) (r c value : ℕ) →
    IsDepth depth → fx < 16 → fy < 16 → value < 2 ^ depth
    → ((x y : ℕ) → x < c + 8 → y < r + 8 → samples x y ≡ value)
    → single depth fx fy (filter_of mode_x fx width) (filter_of mode_y fy height) samples r c ≡ value

-- Every prepared value of samples within the depth fits 16 bits.
abbrev pub PreparedFits : Type 0
PreparedFits =
    (depth fx fy : ℕ) (mode_x mode_y : FilterMode) (width height : ℕ) (samples : ℕ → ℕ → ℕ) (r c : ℕ) → IsDepth depth →
    fx < 16 → fy < 16
    → ((x y : ℕ) → x < c + 8 → y < r + 8 → samples x y < 2 ^ depth)
    → FitsSigned w16 (prepared depth fx fy (filter_of mode_x fx width) (filter_of mode_y fy height) samples r c)
