-- The differences between the samples of some bytes and the samples of a plan.
use Rattle.std.specs.Prelude.{ℕ, ◌+◌, ◌-◌, ◌==◌, not, min, Bool, List, [], ◌∷◌, ◌++◌, map, find, Option, Some, None}
use Rattle.std.specs.Prelude.{if◌then◌else◌}
use Rattle.std.specs.List.{flat_map, range_with_len}
use Rattle.std.specs.Option.{option_map}
use Rattle.av1_blocks.specs.Blocks.{block_width, block_height}
use Rattle.av1_plan.specs.declared.geometry.PlaneArea.{PlaneArea}
use Rattle.av1_plan.specs.declared.header.Header.{Header}
use Rattle.av1_plan.specs.Geometry.{covers_plane, plane_area, shown_rows, shown_columns}
use Rattle.av1_plan.specs.Plan.{LeafValue, PlanValue}
use Rattle.av1_trace.specs.declared.entry.Difference.{Difference}
use Rattle.av1_trace.specs.Samples.{given, defined}

-- ---- visible places

-- a place in a plane
pub record Place : Type 0 where
  pub x : ℕ
  pub y : ℕ

-- the places of a rectangle in raster order, from column x of row y on
abbrev pub raster : (x columns y rows : ℕ) → List Place
raster x columns y rows =
    flat_map (λ r. map (λ c. record { x = c; y = r }) (range_with_len x columns)) (range_with_len y rows)

-- the visible places of a rectangle of plane p, in raster order: none if it lies outside the visible plane
unfoldable pub visible_places : Header → (p : ℕ) → PlaneArea → List Place
visible_places h p a =
    raster a.x (min (a.x + block_width a.size) (shown_columns h p) - a.x) a.y
    (min (a.y + block_height a.size) (shown_rows h p) - a.y)

-- ---- differences

-- the given sample differs from the sample of the plan
abbrev pub is_other : PlanValue → List ℕ → (p : ℕ) → Place → Bool
is_other plan bytes p place = not (given plan.header bytes p place.x place.y == defined plan p place.x place.y)

-- the difference of leaf n at a place of plane p
abbrev pub difference_at : PlanValue → List ℕ → (n p : ℕ) → Place → Difference
difference_at plan bytes n p place = record {
  leaf = n;
  plane = p;
  row = place.y;
  column = place.x;
  given = given plan.header bytes p place.x place.y;
  defined = defined plan p place.x place.y;
}

-- the first difference of leaf n in a rectangle of plane p, in raster order
unfoldable pub first_difference : PlanValue → List ℕ → (n p : ℕ) → PlaneArea → Option Difference
first_difference plan bytes n p a =
    option_map (difference_at plan bytes n p) (find (is_other plan bytes p) (visible_places plan.header p a))

-- one entry, or none
abbrev pub entries : Option Difference → List Difference
entries None = []
entries (Some difference) = difference ∷ []

-- The entry of leaf n in plane p. There is one if the leaf covers a part of the plane and a visible sample of its
-- rectangle differs. It is the first such sample in raster order.
unfoldable pub plane_differences : PlanValue → List ℕ → (n : ℕ) → LeafValue → (p : ℕ) → List Difference
plane_differences plan bytes n l p =
    if covers_plane plan.header l.x l.y l.size p
    then entries (first_difference plan bytes n p (plane_area plan.header l.x l.y l.size l.tx_size p)) else []

-- the differences of leaf n: in Y, then in U, then in V
abbrev pub leaf_differences : PlanValue → List ℕ → (n : ℕ) → LeafValue → List Difference
leaf_differences plan bytes n l = plane_differences plan bytes n l 0 ++ plane_differences plan bytes n l 1
    ++ plane_differences plan bytes n l 2

-- the differences of leaves; the first leaf has number n
abbrev pub leaves_differences : PlanValue → List ℕ → (n : ℕ) → List LeafValue → List Difference
leaves_differences plan bytes n [] = []
leaves_differences plan bytes n (l ∷ leaves) =
    leaf_differences plan bytes n l ++ leaves_differences plan bytes (n + 1) leaves

-- the differences between a plan and bytes of planes, leaf by leaf in coding order
unfoldable pub differences : PlanValue → List ℕ → List Difference
differences plan bytes = leaves_differences plan bytes 0 plan.leaves
