use Rattle.std.proofs.Common.{◌≡◌, ℕ, ◌<◌, get_or}
use Rattle.av1_edges.proofs.fill.fill_with.Given as goal

abbrev pub invariant-loop-sample : goal.invariant-loop-sample
invariant-loop-sample g l = (k : ℕ) (d : g.row.T.Denot) → k < l.sample-index → get_or l.row k d ≡ l.value
