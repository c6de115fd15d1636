use Rattle.std.proofs.Common.{◌≡◌, ℕ, ◌<◌, get_or, pos}
use Rattle.av1_tile.proofs.coefficients.clear.Given as goal

abbrev pub invariant-loop-coefficient : goal.invariant-loop-coefficient
invariant-loop-coefficient g l =
    (k : ℕ) (d : g.row.C.Denot) → k < l.coefficient-index → g.C.Coefficient.val (get_or l.coefficients k d) ≡ pos 0
