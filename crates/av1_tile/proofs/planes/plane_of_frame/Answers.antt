use Rattle.std.proofs.Common.{arith}
use Rattle.av1_frame.specs.Planes.{new_config}
use Rattle.av1_tile.proofs.Pictures.{new_stores, new_zeros}
use Rattle.av1_tile.proofs.PlanFits.{across, down}
use Rattle.av1_tile.proofs.planes.plane_of_frame.Goals as goal

pub returns-clause-stores : goal.returns-clause-stores
returns-clause-stores g c =
    let cfg = new_config c.plane_width.result c.plane_height.result c.xdec-xdec.result c.ydec-ydec.result c.pad_of.result c.pad_of-2.result in
    let of_pixel = g.met.T.Pixel.num_of_pixel in
    let n = c.new.ensures in
    new_stores g.T.Pixel.num (g.T.Pixel.pixel 0) c.args.header.now c.args.p cfg c.new.result c.requires.frame (of_pixel 0) c.plane_width.ensures.value
    c.plane_height.ensures.value c.xdec-xdec.ensures.value c.ydec-ydec.ensures.value n.cfg n.samples n.whole

pub returns-clause-zeros : goal.returns-clause-zeros
returns-clause-zeros g c = new_zeros (g.T.Pixel.pixel 0) c.new.result c.new.ensures.samples

pub new-requires-clause-some_columns : goal.new-requires-clause-some_columns
new-requires-clause-some_columns g c = omega (arith, (across c.args.header.now c.args.p c.requires.frame).0, c.plane_width.ensures.value)

pub new-requires-clause-some_rows : goal.new-requires-clause-some_rows
new-requires-clause-some_rows g c = omega (arith, (down c.args.header.now c.args.p c.requires.frame).0, c.plane_height.ensures.value)
