use Rattle.std.proofs.Common.{◌∙◌}
use Rattle.av1_avail.proofs.BitOrder.{bottom_left_by_bits}
use Rattle.av1_avail.proofs.TableOrder.{bottom_left_by_order}
use Rattle.av1_avail.proofs.availability.has_bottom_left.Goals as goal

pub returns-clause-by_order : goal.returns-clause-by_order
returns-clause-by_order c =
    λ i tile near.
    let a = c.args in
    rw (c.if-not-bottom_available.false, c.if-not-left_available.false)
    (c.bottom_left_by_table.ensures
    ∙ bottom_left_by_order a.bsize a.tx_size a.partition_bo.0.x a.partition_bo.0.y a.row_off a.col_off a.ss_x a.ss_y i tile near)

pub returns-clause-by_bits : goal.returns-clause-by_bits
returns-clause-by_bits c =
    λ near whole.
    let a = c.args in
    rw (c.if-not-bottom_available.false, c.if-not-left_available.false)
    (c.bottom_left_by_table.ensures ∙ bottom_left_by_bits a.bsize a.partition_bo.0.x a.partition_bo.0.y near a.tx_size a.row_off a.col_off a.ss_x a.ss_y whole)
