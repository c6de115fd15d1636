use Rattle.std.proofs.Common.{◌≡◌, ℕ, ◌<◌, ◌+◌, map}
use Rattle.av1_dct.specs.Arithmetic.{at}
use Rattle.av1_dct.specs.Word.{column}
use Rattle.av1_itx.specs.Residue.{row_input}
use Rattle.av1_itx.proofs.row_pass.fill_line.Given as goal

abbrev pub invariant-loop-c : goal.invariant-loop-c
invariant-loop-c g l = (i : ℕ) → i < g.W.Word.LANES → (q : ℕ) → q < l.c → at (column g.W.Word.lane_of i l.line) q ≡
    row_input l.block.tx_size l.block.tx_type l.block.bd (map g.C.Coefficient.val l.input) (l.r + i) q
