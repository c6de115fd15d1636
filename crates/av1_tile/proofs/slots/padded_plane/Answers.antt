use Rattle.std.proofs.Common.{arith}
use Rattle.av1_tile.proofs.Filled.{filled_holds}
use Rattle.av1_plan.proofs.Shown.{columns_shown, rows_shown}
use Rattle.av1_tile.proofs.Sides.{fit_bits}
use Rattle.av1_tile.proofs.slots.padded_plane.Goals as goal

pub new-requires-clause-some_columns : goal.new-requires-clause-some_columns
new-requires-clause-some_columns g c =
    omega (arith, c.shown_columns-width.ensures.value, (columns_shown c.args.header.now c.args.p c.requires.frame.width c.requires.frame.shown_width).0)

pub new-requires-clause-some_rows : goal.new-requires-clause-some_rows
new-requires-clause-some_rows g c =
    omega (arith, c.shown_rows-height.ensures.value, (rows_shown c.args.header.now c.args.p c.requires.frame.height c.requires.frame.shown_height).0)

pub fill_plane-requires-clause-range : goal.fill_plane-requires-clause-range
fill_plane-requires-clause-range g c =
    fit_bits c.args.samples.now c.args.header.now.depth g.T.Pixel.BITS c.requires.depth c.requires.samples.range

pub returns : goal.returns
returns g c =
    let made = c.in_ok-plane in
    filled_holds g.T.Pixel.num g.T.Pixel.pixel g.met.T.Pixel.pixel_of_num g.met.T.Pixel.num_of_pixel
    c.args.samples.now made.plane c.fill_plane.new.plane c.pad.new.self c.args.header.now c.args.p made.ensures.whole made.ensures.cfg c.pad_of.ensures.value
    c.pad_of-2.ensures.value
    c.shown_columns-width.ensures.value c.shown_rows-height.ensures.value c.xdec-xdec.ensures.value c.ydec-ydec.ensures.value c.requires.samples.range
    c.fill_plane.ensures c.pad.ensures.all
