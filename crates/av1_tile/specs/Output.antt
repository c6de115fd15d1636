-- The output: the bytes of the shown part of the planes.
use Rattle.std.specs.Prelude.{ℕ, ◌/◌, ◌%◌, ◌==◌, List, [], ◌∷◌, ◌++◌, if◌then◌else◌}
use Rattle.std.specs.List.{flat_map}
use Rattle.av1_lists.specs.Lists.{by_index}
use Rattle.av1_plan.specs.declared.header.Header.{Header}
use Rattle.av1_plan.specs.Plan.{PlanValue}
use Rattle.av1_tile.specs.declared.extent.PlaneExtent.{PlaneExtent}
use Rattle.av1_tile.specs.Canvas.{Component, Y, U, V}
use Rattle.av1_tile.specs.Edge.{sample_of}
use Rattle.av1_tile.specs.PlaneBlocks.{shown_of}
use Rattle.av1_tile.specs.Reference.{slow_walk}

-- the samples of a part of a plane, row by row
abbrev pub by_rows : PlaneExtent → (ℕ → ℕ → ℕ) → List ℕ
by_rows extent f = flat_map (λ y. by_index extent.width (λ x. f x y)) (by_index extent.height (λ y. y))

-- a sample as one byte at depth 8, else as two, the low one first
abbrev pub sample_bytes : ℕ → ℕ → List ℕ
sample_bytes depth v = if depth == 8 then v ∷ [] else v % 256 ∷ v / 256 ∷ []

-- the bytes of a part of a plane
abbrev pub plane_bytes : PlaneExtent → (ℕ → ℕ → ℕ) → List ℕ
plane_bytes extent f = flat_map (sample_bytes extent.depth) (by_rows extent f)

-- the bytes of the shown part of the planes: Y, then U, then V
unfoldable pub visible : Header → (Component → ℕ → ℕ → ℕ) → List ℕ
visible header f =
    plane_bytes (shown_of header 0) (f Y) ++ plane_bytes (shown_of header 1) (f U)
    ++ plane_bytes (shown_of header 2) (f V)

-- the bytes of a plan: the shown samples of its canvas after the walk
unfoldable pub planes_of : PlanValue → List ℕ
planes_of plan = visible plan.header (λ component x y. sample_of (slow_walk plan component x y))
