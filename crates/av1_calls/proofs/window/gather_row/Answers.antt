use Rattle.av1_calls.proofs.Windows.{gathered_row}
use Rattle.av1_calls.proofs.window.gather_row.Goals as goal

pub returns : goal.returns
returns g c =
    let parts = c.args.parts in
    let front = c.split_at_mut-before.ensures in
    let back = c.split_at_mut-inside.ensures in
    gathered_row c.args.source.now c.split_at.result.1.now parts.before parts.start parts.inside c.args.visible c.args.width c.requires.some
    c.requires.source_long c.requires.fits c.requires.stored c.split_at.ensures.back c.args.row.now _ _ _ _ _ _ _ c.index-source-0.result
    c.index-source-visible.result
    c.requires.row_long front.front front.back back.front back.back c.index-source-0.is c.index-source-visible.is c.fill_row.ensures c.copy_row.ensures
    c.fill_row-2.ensures
