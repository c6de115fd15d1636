use Rattle.std.proofs.Common.{◌<◌, ℕ, List, get_or, length, map, slice_index, ap, ◌∙◌, arith}
use Rattle.std.proofs.lemmas.List.{get_or_default}
use Rattle.av1_frame.proofs.Paint.{paint_row_same}
use Rattle.av1_frame.specs.Samples.{paint_row}
use Rattle.av1_tiles.proofs.Copied.{row_length, sample_is}
use Rattle.av1_tiles.proofs.frame.copy_tile_row.Goals as goal

pub copy_row-requires-clause-source_long : goal.copy_row-requires-clause-source_long
copy_row-requires-clause-source_long g c =
    omega (arith, c.requires.columns, row_length g.T.Pixel.num c.args.tile.now.header c.args.tile.now.planes c.args.p c.args.y c.row.result.now c.row.ensures)

pub returns : goal.returns
returns g c =
    let source = c.row.result.now in
    let long = row_length g.T.Pixel.num c.args.tile.now.header c.args.tile.now.planes c.args.p c.args.y source c.row.ensures in
    c.copy_row.ensures
    ∙ paint_row_same c.args.width (λ q v. get_or source q v) (λ q _. g.T.Pixel.pixel (slice_index (map g.T.Pixel.num source) q)) c.args.row.now
    (λ q v h. let inside : q < length source = omega (arith, h, c.requires.columns, long) in
    sample_is g.T.Pixel.num g.T.Pixel.pixel g.met.T.Pixel.pixel_of_num source q (get_or source q v) inside
    (get_or_default source q v (get_or source q v) inside))
    ∙ ap (λ (ns : List ℕ). paint_row c.args.width (λ q _. g.T.Pixel.pixel (slice_index ns q)) c.args.row.now) c.row.ensures
