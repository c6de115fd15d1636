-- What is written of a plan so far: definitions for private contracts.
use Rattle.std.specs.Prelude.{ℕ, ◌-◌, List, [], ◌∷◌, ◌++◌, drop, Option, Some, None}
use Rattle.av1_plan.specs.declared.header.Header.{Header}
use Rattle.av1_plan.specs.declared.nodes.Part.{Part}
use Rattle.av1_plan.specs.declared.nodes.Part.TheVariants.{Node, Leaf}
use Rattle.av1_plan.specs.Values.{plan_value}
use Rattle.av1_plan.specs.Plan.{PlanValue, triples_of}
use Rattle.av1_plan.specs.declared.leaf.Triple.{Triple}
use Rattle.av1_planwrite.specs.Bare.{bare}
use Rattle.av1_planwrite.specs.Text.{Draft, byte, plane_text, mark_of, leaf_written, next_cut, parts_written}
use Rattle.av1_planwrite.specs.Text.{block_written}
use Rattle.av1_planwrite.specs.declared.nodes.Coefficients.{Coefficients}
use Rattle.av1_planwrite.specs.declared.nodes.Coefficients.TheVariants.{Kept, LeftOut}
use Rattle.av1_planwrite.specs.declared.nodes.Writer.{Writer}

-- the plan that is written
unfoldable pub told : Coefficients → PlanValue → PlanValue
told Kept p = p
told LeftOut p = bare p

-- the coefficients of a leaf in a plane that are written
abbrev pub told_triples : Coefficients → PlanValue → ℕ → ℕ → List Triple
told_triples Kept p leaf plane = triples_of p leaf plane
told_triples LeftOut p leaf plane = []

-- the remaining leaves, and the bytes so far
abbrev pub draft : Writer → Draft
draft w = (drop w.next (told w.coefficients (plan_value w.plan.now)).leaves, w.text.bytes.items)

-- a node is written, its mark first
abbrev pub node_written : Header → (level x y : ℕ) → Draft → Draft
node_written h level x y d =
    let cut = next_cut level d.0 in
    parts_written h level (block_written h (level - 1)) x y cut (d.0, d.1 ++ byte (mark_of cut))

-- the remaining parts of a frame are written, one after the other
unfoldable pub remaining_written : Header → List Part → Draft → Draft
remaining_written h [] d = d
remaining_written h (Node level x y ∷ parts) d = remaining_written h parts (node_written h level x y d)
remaining_written h (Leaf size x y ∷ parts) d = remaining_written h parts (leaf_written d.0 d.1)

-- the samples of a plane, if there are any
abbrev pub samples_text : ℕ → Option (List ℕ) → List ℕ
samples_text depth None = []
samples_text depth (Some samples) = plane_text depth samples
