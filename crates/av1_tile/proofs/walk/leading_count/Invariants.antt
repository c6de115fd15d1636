use Rattle.std.proofs.Common.{ℕ, ◌≡◌, ◌<◌, get_or}
use Rattle.av1_plan.specs.declared.leaf.Triple.{Triple}
use Rattle.av1_tile.proofs.walk.leading_count.Given as goal

abbrev pub invariant-loop-count : goal.invariant-loop-count
invariant-loop-count l = (k : ℕ) (d : Triple) → k < l.count → (get_or l.triples k d).block ≡ l.number
