use Rattle.std.proofs.Common.{◌+◌, arith}
use Rattle.std.proofs.Math.Nat.{le-mul_of_pos_right}
use Rattle.av1_frame.proofs.Fits.{row_end_le}
use Rattle.av1_frame.proofs.Paint.{row_painted_rest, row_within}
use Rattle.av1_itx.proofs.adding.add_rows.Goals as goal

pub overflow_add-area : goal.overflow_add-area
overflow_add-area g c =
    let rows = c.requires.rows in
    let all = le-mul_of_pos_right (c.args.area.y + c.args.area.height) rows.some in
    omega (arith, all, rows.rows, rows.few)

pub overflow_mul-area : goal.overflow_mul-area
overflow_mul-area g c =
    let row = row_within c.args.stride c.args.area _ c.loop-r.r c.requires.rows c.loop-r-test.true in omega (arith, row, c.requires.rows.few)

pub overflow_add-area-in-loop-r : goal.overflow_add-area-in-loop-r
overflow_add-area-in-loop-r g c =
    let row = row_within c.args.stride c.args.area _ c.loop-r.r c.requires.rows c.loop-r-test.true in omega (arith, row, c.requires.rows.few)

pub split_at_mut-row-requires : goal.split_at_mut-row-requires
split_at_mut-row-requires g c =
    let row = row_within c.args.stride c.args.area _ c.loop-r.r c.requires.rows c.loop-r-test.true in omega (arith, row, c.loop-r.auto.samples)

pub add_row-requires-clause-row_long : goal.add_row-requires-clause-row_long
add_row-requires-clause-row_long g c =
    let row = row_within c.args.stride c.args.area _ c.loop-r.r c.requires.rows c.loop-r-test.true in
    omega (arith, row, c.loop-r.auto.samples, c.split_at_mut-row.ensures.back_len)

pub overflow_mul-r : goal.overflow_mul-r
overflow_mul-r g c =
    let row = row_end_le c.loop-r.r c.args.area.height c.args.area.width c.args.area.width _ c.requires.buffer_long c.loop-r-test.true (omega arith) in
    omega (arith, row)

pub add_row-requires-clause-buffer_long : goal.add_row-requires-clause-buffer_long
add_row-requires-clause-buffer_long g c =
    row_end_le c.loop-r.r c.args.area.height c.args.area.width c.args.area.width _ c.requires.buffer_long c.loop-r-test.true (omega arith)

pub add_row-requires-clause-fit : goal.add_row-requires-clause-fit
add_row-requires-clause-fit g c = λ x h. c.requires.fit c.loop-r.r x c.loop-r-test.true h

pub loop-r-preserved : goal.loop-r-preserved
loop-r-preserved g c =
    let rows = c.split_at_mut-row.ensures in
    row_painted_rest _ c.args.area c.loop-r.r _ _ c.loop-r.samples _ _ _ c.requires.rows c.loop-r-test.true c.loop-r.invariant rows.front rows.back
    c.add_row.ensures
