use Rattle.av1_sequence.proofs.Shown.{cut_whole, sides_as}
use Rattle.av1_sequence.proofs.pictures.pad_shown.Goals as goal

pub set_sides-requires : goal.set_sides-requires
set_sides-requires g c =
    sides_as c.args.plane.now _ _ _ _ c.shown_columns.ensures.value c.shown_rows.ensures.value
    (cut_whole g.T.Pixel.num c.args.header.now c.args.p c.args.plane.now c.requires.frame c.requires.stores)
