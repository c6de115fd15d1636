use Rattle.av1_inter.proofs.Rows.{copied_halves}
use Rattle.av1_inter.proofs.copies.copy_by_halves.Goals as goal

pub returns : goal.returns
returns g c =
    let row = c.split_at_mut-front.ensures in
    let from = c.split_at.ensures in
    copied_halves g.row.N c.args.row.now c.args.source.now _ _ _ _ _ _ c.requires.row_long c.requires.source_long row.front row.back from.front
    from.back c.copy_by_array.ensures c.copy_by_array-2.ensures
