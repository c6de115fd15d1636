-- The values of plans in memory and of the results of parsing.
use Rattle.std.specs.Prelude.{ℕ, List, Result, Ok, Err}
use Rattle.av1_plan.specs.declared.plan.Plan.{Plan}
use Rattle.av1_plan.specs.declared.leaves.Leaves.{Leaves}
use Rattle.av1_plan.specs.declared.leaf.Leaf.{Leaf}
use Rattle.av1_plan.specs.declared.leaf.Triple.{Triple}
use Rattle.av1_plan.specs.declared.error.PlanError.{PlanError}
use Rattle.av1_plan.specs.declared.error.PlanError.TheVariants as errors
use Rattle.av1_plan.specs.Plan.{LeafValue, PlanValue, leaf_values, value_of}

-- leaves, as they lie in memory
abbrev pub leaf_list : Leaves → List Leaf
leaf_list l = l.leaves.items

-- the one list of their triples
abbrev pub triple_list : Leaves → List Triple
triple_list l = l.triples.items

-- the values of leaves
abbrev pub leaves_value : Leaves → List LeafValue
leaves_value l = leaf_values (triple_list l) (leaf_list l)

-- the leaves of a plan, as they lie in memory
abbrev pub stored_leaves : Plan → List Leaf
stored_leaves p = leaf_list p.leaves

-- the one list of triples of a plan
abbrev pub stored_triples : Plan → List Triple
stored_triples p = triple_list p.leaves

-- the value of a plan
abbrev pub plan_value : Plan → PlanValue
plan_value p = value_of p.header p.references.items (stored_leaves p) (stored_triples p)

-- P holds for the position that the error names, if it names one
abbrev pub IfMalformed : {X : Type 0} → Result X PlanError → (ℕ → Type 0) → Type 0
IfMalformed (Ok x) P = Unit {0}
IfMalformed (Err errors.Memory) P = Unit {0}
IfMalformed (Err (errors.Malformed at)) P = P at
