use Rattle.av1_tile.proofs.Pictures.{row_of}
use Rattle.av1_tile.proofs.planes.visible_row.Goals as goal

pub returns : goal.returns
returns g c =
    row_of g.T.Pixel.num c.args.header.now c.args.p c.args.plane.now c.args.y c.run.result.now c.shown_columns.result c.requires.place c.requires.in_plane
    c.shown_columns.ensures.value c.run.ensures.value c.run.ensures.len
