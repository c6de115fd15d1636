use Rattle.std.proofs.Common.{◌≡◌, ℕ, ◌<◌, ◌+◌, ◌-◌, get_or}
use Rattle.av1_edges.specs.Edges.{region_sample}
use Rattle.av1_edges.proofs.fill.copy_rows.Given as goal

abbrev pub invariant-loop-i : goal.invariant-loop-i
invariant-loop-i g l =
    (k : ℕ) (d : g.row.T.Denot) → k < l.i → g.T.Pixel.num (get_or l.left k d) ≡ region_sample g.T.Pixel.num l.dst l.x (l.y + (l.count - 1 - k))
