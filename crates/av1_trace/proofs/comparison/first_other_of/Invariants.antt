use Rattle.std.proofs.Common.{◌≡◌, ℕ, ◌<◌, ◌≤◌, map, get_or}
use Rattle.av1_trace.specs.Samples.{sample_from}
use Rattle.av1_trace.proofs.comparison.first_other_of.Given as goal

abbrev pub invariant-loop-x : goal.invariant-loop-x
invariant-loop-x g l = (z : ℕ) → l.left ≤ z → z < l.x → sample_from l.depth l.given z ≡ get_or (map g.T.Pixel.num l.row) z 0
