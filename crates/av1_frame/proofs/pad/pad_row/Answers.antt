use Rattle.std.proofs.Common.{refl}
use Rattle.av1_frame.proofs.Gather.{row_sides}
use Rattle.av1_frame.proofs.pad.pad_row.Goals as goal

pub returns : goal.returns
returns g c =
    row_sides c.args.first c.args.width _ c.args.row.now _ _ c.requires.some c.requires.fits refl c.spread.ensures c.spread-2.ensures
