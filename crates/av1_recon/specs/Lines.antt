-- The four lines of a plan: the number of its leaves, and the sum of the visible samples of each plane.
use Rattle.std.specs.Prelude.{ℕ, List, ◌++◌, length, sum, codes, decimal}
use Rattle.av1_plan.specs.Plan.{PlanValue}
use Rattle.av1_tile.specs.Canvas.{Component, Y, U, V}
use Rattle.av1_tile.specs.PlaneBlocks.{number, shown_of}
use Rattle.av1_tile.specs.Edge.{sample_of}
use Rattle.av1_tile.specs.Output.{by_rows}
use Rattle.av1_tile.specs.Reference.{slow_walk}

-- a number of leaves, and a sum for each plane
abbrev pub four_lines : ℕ → ℕ → ℕ → ℕ → List ℕ
four_lines leaves y u v =
    codes "leaves " ++ decimal leaves ++ codes "\nY " ++ decimal y ++ codes "\nU " ++ decimal u ++ codes "\nV "
    ++ decimal v ++ codes "\n"

-- the sum of the visible samples of a plane, by the slow definition
abbrev pub visible_sum : PlanValue → Component → ℕ
visible_sum plan component =
    sum (by_rows (shown_of plan.header (number component)) (λ x y. sample_of (slow_walk plan component x y)))

-- the lines of a plan
unfoldable pub sum_lines : PlanValue → List ℕ
sum_lines plan = four_lines (length plan.leaves) (visible_sum plan Y) (visible_sum plan U) (visible_sum plan V)
