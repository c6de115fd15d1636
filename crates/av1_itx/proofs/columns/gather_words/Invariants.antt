use Rattle.std.proofs.Common.{◌≡◌, ℕ, ◌<◌, ◌+◌, ◌*◌}
use Rattle.av1_dct.specs.Arithmetic.{at}
use Rattle.av1_dct.specs.Word.{column}
use Rattle.av1_itx.proofs.columns.gather_words.Given as goal

abbrev pub invariant-loop-r : goal.invariant-loop-r
invariant-loop-r g l = (i : ℕ) → i < g.W.Word.LANES → (q : ℕ) → q < l.r → at (column g.W.Word.lane_of i l.line) q ≡ at l.buffer (q * l.w + (l.c + i))
