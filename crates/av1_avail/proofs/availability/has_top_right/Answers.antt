use Rattle.std.proofs.Common.{◌<◌, ◌∙◌, arith}
use Rattle.av1_blocks.proofs.Sides.{tx_width_range}
use Rattle.av1_avail.specs.Cells.{transform_columns}
use Rattle.av1_avail.proofs.BitOrder.{top_right_by_bits}
use Rattle.av1_avail.proofs.Centre.{centre_is_not}
use Rattle.av1_avail.proofs.TableOrder.{top_right_by_order}
use Rattle.av1_avail.proofs.availability.has_top_right.Goals as goal

pub returns-clause-by_order : goal.returns-clause-by_order
returns-clause-by_order c =
    λ i tile near.
    let a = c.args in
    rw (c.if-not-top_available.false, c.if-not-right_available.false)
    (c.top_right_by_table.ensures ∙ top_right_by_order a.bsize a.tx_size a.partition_bo.0.x a.partition_bo.0.y a.row_off a.col_off a.ss_x a.ss_y i tile near)

pub returns-clause-by_bits : goal.returns-clause-by_bits
returns-clause-by_bits c =
    λ near whole.
    let a = c.args in
    rw (c.if-not-top_available.false, c.if-not-right_available.false)
    (c.top_right_by_table.ensures ∙ top_right_by_bits a.bsize a.partition_bo.0.x a.partition_bo.0.y near a.tx_size a.row_off a.col_off a.ss_x a.ss_y whole)

pub returns-clause-centre : goal.returns-clause-centre
returns-clause-centre c =
    λ wide at_row at_column.
    let a = c.args in
    let some : 0 < transform_columns a.tx_size = omega (arith, (tx_width_range a.tx_size).0) in
    c.top_right_by_table.ensures
    ∙ centre_is_not a.bsize a.partition_bo.0.x a.partition_bo.0.y (transform_columns a.tx_size) a.row_off a.col_off a.ss_x a.ss_y c.requires.halved_x
    c.requires.halved_y wide some at_row at_column
