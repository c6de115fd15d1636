-- The given samples in the bytes of planes, and the samples of a plan. Planes are 0 for Y, 1 for U and 2 for V.
use Rattle.std.specs.Prelude.{ℕ, zero, suc, ◌+◌, ◌*◌, ◌==◌, List, slice_index, if◌then◌else◌}
use Rattle.av1_plan.specs.declared.header.Header.{Header}
use Rattle.av1_plan.specs.Geometry.{plane_len, shown_columns}
use Rattle.av1_plan.specs.Plan.{PlanValue}
use Rattle.av1_tile.specs.Edge.{sample_of}
use Rattle.av1_tile.specs.PlaneBlocks.{component}
use Rattle.av1_tile.specs.Reference.{slow_walk}

-- how many bytes a sample of this depth has
unfoldable pub sample_len : ℕ → ℕ
sample_len depth = if depth == 8 then 1 else 2

-- how many samples precede plane p
unfoldable pub samples_before : Header → ℕ → ℕ
samples_before h zero = 0
samples_before h (suc p) = samples_before h p + plane_len h p

-- how many bytes the planes of a frame have
unfoldable pub planes_len : Header → ℕ
planes_len h = sample_len h.depth * samples_before h 3

-- sample i of bytes: one byte at depth 8, else two, the low byte first
unfoldable pub sample_from : (depth : ℕ) → List ℕ → ℕ → ℕ
sample_from depth bytes i = if depth == 8 then slice_index bytes i
    else slice_index bytes (2 * i) + 256 * slice_index bytes (2 * i + 1)

-- the given sample at column x of row y of plane p
abbrev pub given : Header → List ℕ → (p x y : ℕ) → ℕ
given h bytes p x y = sample_from h.depth bytes (samples_before h p + (y * shown_columns h p + x))

-- the sample of the plan at this place, by the slow definition
abbrev pub defined : PlanValue → (p x y : ℕ) → ℕ
defined plan p x y = sample_of (slow_walk plan (component p) x y)
