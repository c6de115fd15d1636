-- Plans without coefficients.
use Rattle.std.specs.Prelude.{ℕ, List, [], map}
use Rattle.av1_plan.specs.declared.leaf.Triple.{Triple}
use Rattle.av1_plan.specs.Grammar.{plan}
use Rattle.av1_plan.specs.Plan.{LeafValue, PlanValue}
use Rattle.av1_plan.specs.Spelling.{AreText}
use Rattle.av1_planwrite.specs.Text.{plan_text}

-- no coefficients
abbrev pub none_of : List Triple → List Triple
none_of triples = []

-- the same leaf without coefficients
abbrev pub bare_leaf : LeafValue → LeafValue
bare_leaf l = record {
  x = l.x;
  y = l.y;
  size = l.size;
  kind = l.kind;
  tx_size = l.tx_size;
  tx_type = l.tx_type;
  uv_type = l.uv_type;
  triples = map none_of l.triples;
}

-- the same plan without coefficients: only its predictions
abbrev pub bare : PlanValue → PlanValue
bare p = record { header = p.header; references = p.references; leaves = map bare_leaf p.leaves }

-- the text of the plan without coefficients
abbrev pub bare_text : PlanValue → List ℕ
bare_text p = plan_text (bare p)

-- the bytes are exactly the fields of a complete proper list, which spells the plan (kept without the list)
abbrev pub IsTextOf : List ℕ → PlanValue → Type 0
IsTextOf bytes p = ∥ AreText plan bytes p ∥₁
