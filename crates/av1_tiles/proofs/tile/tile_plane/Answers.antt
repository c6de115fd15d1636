use Rattle.av1_tiles.proofs.Rectangles.{columns_by, samples_by, few_by}
use Rattle.av1_tiles.proofs.tile.tile_plane.Goals as goal

pub rectangle-requires-clause-columns : goal.rectangle-requires-clause-columns
rectangle-requires-clause-columns c =
    columns_by c.args.header.now c.tile_header-tile.result c.args.area c.args.p _ _ _ _ c.requires.area c.tile_header-tile.ensures c.from.ensures
    c.xdec.ensures.value c.shown_columns-2.ensures.value c.shown_columns.ensures.value

pub rectangle-requires-clause-rows : goal.rectangle-requires-clause-rows
rectangle-requires-clause-rows c =
    samples_by c.args.header.now c.tile_header-tile.result c.args.area c.args.p _ _ _ _ c.args.samples.now c.requires.area c.requires.samples
    c.tile_header-tile.ensures c.from-2.ensures c.ydec.ensures.value c.shown_rows.ensures.value
    c.shown_columns.ensures.value

pub rectangle-requires-clause-few : goal.rectangle-requires-clause-few
rectangle-requires-clause-few c =
    few_by c.args.header.now c.tile_header-tile.result c.args.area c.args.p _ _ _ c.requires.frame c.requires.area c.tile_header-tile.ensures c.from-2.ensures
    c.ydec.ensures.value c.shown_rows.ensures.value
