use Rattle.std.proofs.Common.{◌≡◌, ℕ, ◌<◌, ◌+◌, ◌*◌, map}
use Rattle.av1_dct.specs.Arithmetic.{at}
use Rattle.av1_itx.specs.Residue.{column_value, transformed_row}
use Rattle.av1_itx.proofs.row_pass.rows_of.Given as goal

abbrev pub invariant-loop-g : goal.invariant-loop-g
invariant-loop-g g l = (r x : ℕ) → r < l.m * l.g → x < g.row.N → at l.buffer (r * g.row.N + x) ≡
    column_value l.block.by_av1 l.block.tx_size l.block.tx_type l.block.bd
    (at (transformed_row l.block.by_av1 l.block.tx_size l.block.tx_type l.block.bd (map g.C.Coefficient.val l.input) r) x)
