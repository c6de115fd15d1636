use Rattle.std.proofs.Common.{◌≡◌, ◌++◌, ◌<◌, ℕ, take, get_or}
use Rattle.std.specs.List.{flat_map}
use Rattle.av1_plan.specs.declared.leaf.Triple.{Triple}
use Rattle.av1_planwrite.specs.Given.{FitsTriple}
use Rattle.av1_planwrite.specs.Text.{triple_text}
use Rattle.av1_planwrite.proofs.text.Text.triples.Given as goal

abbrev pub invariant-loop-triple : goal.invariant-loop-triple
invariant-loop-triple l = record {
  so_far : l.self.bytes.items ≡ l.initial.self.bytes.items ++ flat_map triple_text (take l.triple-index l.triples);
  fit : (k : ℕ) (d : Triple) → k < l.triple-index → FitsTriple (get_or l.triples k d);
}
