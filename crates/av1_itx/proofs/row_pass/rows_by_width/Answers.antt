use Rattle.std.proofs.Common.{arith, ◌≡◌, ◌*◌, ◌^◌, ◌∙◌, sym}
use Rattle.av1_blocks.specs.Transforms.{tx_width}
use Rattle.av1_dct.proofs.Powers.{power_only}
use Rattle.av1_itx.specs.Residue.{row_power}
use Rattle.av1_itx.proofs.Handed.{powers}
use Rattle.av1_itx.proofs.row_pass.rows_by_width.Goals as goal

pub rows_of-requires-clause-power : goal.rows_of-requires-clause-power
rows_of-requires-clause-power g c = let size = c.args.block.tx_size in
    sym (power_only (row_power size) 1 (sym (powers size).0 ∙ (let e : tx_width size ≡ 2 * 2 ^ 1 = omega arith in e)))
