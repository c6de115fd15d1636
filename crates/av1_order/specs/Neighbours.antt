-- Which leaf holds a sample of a plane, and how the neighbours of a leaf are found from a record for each cell. AV1
-- specification: intra filter type process.
use Rattle.std.specs.Prelude.{◌≡◌, true, ℕ, Bool, ◌+◌, ◌-◌, ◌*◌, ◌/◌, ◌^◌, ◌<◌, ◌&&◌, if◌then◌else◌, None, Option, Some}
use Rattle.std.specs.Prelude.{is_some, List, ◌∷◌, ◌++◌, find, fold, count_by}
use Rattle.av1_blocks.specs.Blocks.{block_width, block_height}
use Rattle.av1_plan.specs.declared.header.Header.{Header}
use Rattle.av1_plan.specs.CodingOrder.{IsOnGrid, cells_of}
use Rattle.av1_plan.specs.Geometry.{xdec, ydec, covers_plane, plane_area, plane_height, plane_width, coded_width}
use Rattle.av1_plan.specs.Geometry.{coded_height}
use Rattle.av1_plan.specs.Plan.{LeafValue}
use Rattle.av1_plan.specs.Validity.{fault_of}
use Rattle.av1_avail.specs.Order.{is_in}
use Rattle.av1_order.specs.Plans.{IsWholeFrame}
use Rattle.av1_order.specs.Turns.{IsCodedPlan}

-- a leaf holds the luma cell at column cx and row cy
abbrev pub leaf_holds : LeafValue → (cx cy : ℕ) → Bool
leaf_holds l cx cy = is_in cx cy (cells_of l).x (cells_of l).y (cells_of l).columns (cells_of l).rows

-- Along one direction, which is halved if s is 1: the last cell of the unit of 4 samples that holds position z of a
-- plane.
abbrev pub last_cell : (s z : ℕ) → ℕ
last_cell s z = z / 4 * 2 ^ s + (2 ^ s - 1)

-- the last of these leaves that holds the luma cell at column cx of row cy
abbrev pub noted : List LeafValue → (cx cy : ℕ) → Option LeafValue
noted leaves cx cy = fold (λ shown l. if leaf_holds l cx cy then Some l else shown) None leaves

module _ (h : Header) (p : ℕ) where
  -- a leaf's area in plane p holds the sample at column x of row y
  abbrev pub in_area : LeafValue → (x y : ℕ) → Bool
  in_area l x y =
      let a = plane_area h l.x l.y l.size l.tx_size p in
      covers_plane h l.x l.y l.size p && is_in x y a.x a.y (block_width a.size) (block_height a.size)

  -- the leaf, of these, whose area holds the sample
  abbrev pub area_of : List LeafValue → (x y : ℕ) → Option LeafValue
  area_of leaves x y = find (λ l. in_area l x y) leaves

  -- The record of the leaves before one that covers a part of the plane. For each visible sample it shows the leaf, of
  -- these, whose area holds the sample, if there is one. If there are samples above the leaf's area, the one above its
  -- first sample lies in an area of an earlier leaf; and likewise to the left.
  pub record NeighboursAreNoted (earlier : List LeafValue) (l : LeafValue) : Type 0 where
    pub shown : (x y : ℕ) → x < plane_width h p → y < plane_height h p →
        noted earlier (last_cell (xdec h p) x) (last_cell (ydec h p) y) ≡ area_of earlier x y
    pub above :
        let a = plane_area h l.x l.y l.size l.tx_size p in 0 < a.y → is_some (area_of earlier a.x (a.y - 1)) ≡ true
    pub beside :
        let a = plane_area h l.x l.y l.size l.tx_size p in 0 < a.x → is_some (area_of earlier (a.x - 1) a.y) ≡ true

-- A sample lies in a valid leaf's area exactly if the leaf holds the last cell of the sample's unit.
abbrev pub AreasAreCells : Type 0
AreasAreCells =
    (h : Header) (p : ℕ) (l : LeafValue) → IsOnGrid h l → fault_of h l ≡ None → (x y : ℕ)
    → in_area h p l x y ≡ leaf_holds l (last_cell (xdec h p) x) (last_cell (ydec h p) y)

-- Each visible sample of a plan lies in the area of exactly one leaf.
abbrev pub AreasTile : Type 0
AreasTile =
    (h : Header) (p : ℕ) (leaves : List LeafValue) → IsCodedPlan h p leaves → (x y : ℕ) → x < plane_width h p →
    y < plane_height h p
    → count_by (λ l. in_area h p l x y) leaves ≡ 1

-- The last cell of each visible sample's unit lies in the frame, so that a record of the frame's cells has it.
abbrev pub LastCellsLieInside : Type 0
LastCellsLieInside =
    (h : Header) (p : ℕ) → IsWholeFrame h → (x y : ℕ) → x < plane_width h p → y < plane_height h p
    → (last_cell (xdec h p) x < coded_width h / 4) × (last_cell (ydec h p) y < coded_height h / 4)

-- At each leaf of a plan that covers a part of the plane, the record of the earlier leaves shows its neighbours.
abbrev pub LeavesFindNeighbours : Type 0
LeavesFindNeighbours =
    (h : Header) (p : ℕ) (earlier : List LeafValue) (l : LeafValue) (later : List LeafValue) →
    IsCodedPlan h p (earlier ++ l ∷ later)
    → covers_plane h l.x l.y l.size p ≡ true → NeighboursAreNoted h p earlier l
