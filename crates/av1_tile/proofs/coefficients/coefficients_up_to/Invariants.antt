use Rattle.std.proofs.Common.{ℕ, ◌≤◌, ◌<◌, get_or, length}
use Rattle.av1_plan.specs.declared.leaf.Triple.{Triple}
use Rattle.av1_tile.proofs.coefficients.coefficients_up_to.Given as goal

abbrev pub invariant-loop-triple : goal.invariant-loop-triple
invariant-loop-triple l =
    ((k : ℕ) (d : Triple) → k < l.triple-index → (get_or l.triples k d).place < l.count)
    × ((n : ℕ) → ((k : ℕ) (d : Triple) → k < length l.triples → (get_or l.triples k d).place < n) → l.count ≤ n)
