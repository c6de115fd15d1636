use Rattle.std.proofs.Common.{◌≡◌, ℕ, ◌<◌, pos}
use Rattle.av1_dct.specs.Arithmetic.{at}
use Rattle.av1_dct.specs.Word.{column}
use Rattle.av1_itx.proofs.row_pass.are_zero.Given as goal

abbrev pub invariant-loop-c : goal.invariant-loop-c
invariant-loop-c g l = (i q : ℕ) → i < g.W.Word.LANES → q < l.c → at (column g.W.Word.lane_of i l.line) q ≡ pos 0
