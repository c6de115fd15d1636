use Rattle.std.proofs.Common.{◌≡◌, ℕ, ◌<◌, ◌==◌, cond, pos}
use Rattle.av1_dct.specs.Arithmetic.{at}
use Rattle.av1_dct.specs.Word.{column}
use Rattle.av1_itx.proofs.columns.fill_single.Given as goal

abbrev pub invariant-loop-r : goal.invariant-loop-r
invariant-loop-r g l = (i : ℕ) → i < g.W.Word.LANES → (q : ℕ) → q < l.r → at (column g.W.Word.lane_of i l.line) q ≡ cond (q == 0) l.top (pos 0)
