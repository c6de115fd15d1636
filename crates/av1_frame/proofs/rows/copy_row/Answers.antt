use Rattle.av1_frame.proofs.RowParts.{copied_front}
use Rattle.av1_frame.proofs.rows.copy_row.Goals as goal

pub returns : goal.returns
returns g c =
    copied_front c.args.width c.args.row.now c.args.source.now c.copy_from_slice.new.self c.requires.row_long c.requires.source_long
    c.copy_from_slice.ensures.after
