-- Which units of a plane are written before a step: by the steps before it, and by position.
use Rattle.std.specs.Prelude.{◌≡◌, false, ℕ, Bool, ◌+◌, ◌/◌, ◌^◌, ◌<◌, ◌||◌, List, [], ◌∷◌, take, length, get_or}
use Rattle.av1_plan.specs.Tree.{Tree}
use Rattle.av1_avail.specs.Order.{is_in, next_before}
use Rattle.av1_order.specs.Steps.{Coding, Step, area, steps_of, IsFrame}

module _ (sx sy : ℕ) where
  -- the step's rectangle holds the unit
  abbrev pub holds : Step → (x y : ℕ) → Bool
  holds s x y = is_in x y ((area sx sy s.block).x + s.right) ((area sx sy s.block).y + s.down) s.columns s.rows

  -- one of the steps holds the unit
  abbrev pub is_covered : List Step → (x y : ℕ) → Bool
  is_covered [] x y = false
  is_covered (s ∷ ss) x y = holds s x y || is_covered ss x y

  -- the unit is written before step k
  abbrev pub frame_before : List Step → (k x y : ℕ) → Bool
  frame_before steps k x y = is_covered (take k steps) x y

  -- the unit is coded before the step, by position
  abbrev pub told_before : Step → (x y : ℕ) → Bool
  told_before s x y = next_before s.block.x s.block.y s.block.columns s.block.rows sx sy s.rows s.down s.right x y

  -- the unit lies in the coded plane of a frame of `width` by `height` cells
  pub record IsInPlane (width height x y : ℕ) : Type 0 where
    pub column : x < width / 2 ^ sx
    pub row : y < height / 2 ^ sy

-- Position alone decides the order of every plane of every frame.
abbrev pub OrderByPlaces : Type 0
OrderByPlaces =
    (sx sy width height : ℕ) (trees : List (Tree Coding 4)) → IsFrame sx sy width height trees → (k : ℕ) (none : Step) →
    k < length (steps_of sx sy width height trees)
    → (x y : ℕ) → IsInPlane sx sy width height x y
    → frame_before sx sy (steps_of sx sy width height trees) k x y ≡
    told_before sx sy (get_or (steps_of sx sy width height trees) k none) x y
