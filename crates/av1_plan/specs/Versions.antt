-- What the versions of the plan grammar have in common.
use Rattle.std.specs.Prelude.{◌≡◌, ℕ, ◌%◌, ◌≤◌, codes, List, ◌++◌, None}
use Rattle.std.specs.List.{All}
use Rattle.av1_plan.specs.declared.header.Header.{Header}
use Rattle.av1_plan.specs.CodingOrder.{IsTwoToOne}
use Rattle.av1_plan.specs.Geometry.{plane_width, plane_height, shown_columns, shown_rows}
use Rattle.av1_plan.specs.Grammar.{plan}
use Rattle.av1_plan.specs.Plan.{LeafValue, PlanValue}
use Rattle.av1_plan.specs.Spelling.{AreText}
use Rattle.av1_plan.specs.Validity.{fault_of}

-- the same frame in this version
abbrev pub header_in : ℕ → Header → Header
header_in n h = record {
  version = n;
  width = h.width;
  height = h.height;
  depth = h.depth;
  sampling = h.sampling;
  filter = h.filter;
  edge_filter = h.edge_filter;
  slots = h.slots;
  mask = h.mask;
}

-- the same plan in this version
abbrev pub plan_in : ℕ → PlanValue → PlanValue
plan_in n p = record { header = header_in n p.header; references = p.references; leaves = p.leaves }

-- If bytes with the letters of the first version spell a plan, then with the letters of the second version they spell
-- the same plan in that version.
abbrev pub SecondKeepsFirst : Type 0
SecondKeepsFirst =
    (rest : List ℕ) (p : PlanValue) → AreText plan (codes "RPL1" ++ rest) p
    → (p.header.version ≡ 1) × AreText plan (codes "RPL2" ++ rest) (plan_in 2 p)

-- The converse, if no side of a leaf is more than twice the other.
abbrev pub FirstHasRest : Type 0
FirstHasRest =
    (rest : List ℕ) (p : PlanValue) → AreText plan (codes "RPL2" ++ rest) p → All IsTwoToOne p.leaves
    → (p.header.version ≡ 2) × AreText plan (codes "RPL1" ++ rest) (plan_in 1 p)

-- If bytes with the letters of the second version spell a plan, then with the letters of the third version they spell
-- the same plan in that version.
abbrev pub ThirdKeepsSecond : Type 0
ThirdKeepsSecond =
    (rest : List ℕ) (p : PlanValue) → AreText plan (codes "RPL2" ++ rest) p
    → (p.header.version ≡ 2) × AreText plan (codes "RPL3" ++ rest) (plan_in 3 p)

-- The converse, if both shown sides are multiples of 8.
abbrev pub SecondHasRest : Type 0
SecondHasRest =
    (rest : List ℕ) (p : PlanValue) → AreText plan (codes "RPL3" ++ rest) p
    → p.header.width % 8 ≡ 0 → p.header.height % 8 ≡ 0
    → (p.header.version ≡ 3) × AreText plan (codes "RPL2" ++ rest) (plan_in 2 p)

-- A plan of the first two versions shows all that it codes: in each plane as many columns and rows.
abbrev pub ShowsAll : Header → Type 0
ShowsAll h = (p : ℕ) → (shown_columns h p ≡ plane_width h p) × (shown_rows h p ≡ plane_height h p)

abbrev pub EarlierShowAll : Type 0
EarlierShowAll = (bytes : List ℕ) (p : PlanValue) → AreText plan bytes p → p.header.version ≤ 2 → ShowsAll p.header

-- A leaf that is valid in the second version is valid in the third.
abbrev pub ValidStaysValid : Type 0
ValidStaysValid =
    (h : Header) (l : LeafValue) → fault_of (header_in 2 h) l ≡ None → fault_of (header_in 3 h) l ≡ None
