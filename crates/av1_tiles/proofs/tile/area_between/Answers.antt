use Rattle.av1_tiles.proofs.Starts.{area_of}
use Rattle.av1_tiles.proofs.tile.area_between.Goals as goal

pub returns-clause-area : goal.returns-clause-area
returns-clause-area c =
    area_of c.args.header.now c.args.columns.now c.args.rows.now c.args.column c.args.row c.requires.frame c.requires.columns c.requires.rows c.requires.column
    c.requires.row
