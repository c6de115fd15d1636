use Rattle.std.proofs.Common.{◌≤◌, arith}
use Rattle.av1_plan.specs.Geometry.{shown_columns, shown_rows}
use Rattle.av1_plan.proofs.Shown.{columns_few, rows_few}
use Rattle.av1_sequence.proofs.Sizes.{product_small}
use Rattle.av1_sequence.proofs.pictures.plane_samples.Goals as goal

pub returns-clause-few : goal.returns-clause-few
returns-clause-few c =
    let h = c.args.header.now in
    let columns : shown_columns h c.args.p ≤ 2048 = omega (arith, columns_few h c.args.p, c.requires.shown_width.within, c.requires.width.most) in
    let rows : shown_rows h c.args.p ≤ 2048 = omega (arith, rows_few h c.args.p, c.requires.shown_height.within, c.requires.height.most) in
    omega (arith, product_small (shown_columns h c.args.p) (shown_rows h c.args.p) columns rows, c.plane_len.ensures)
