use Rattle.std.proofs.Common.{arith}
use Rattle.av1_frame.proofs.Fits.{row_fits}
use Rattle.av1_frame.proofs.plane_region.PlaneRegionMut.row_mut.Goals as goal

pub overflow_add-start : goal.overflow_add-start
overflow_add-start g c = let fits = c.requires.fits.fits in omega (arith, fits.rows, fits.storage.few_rows)

pub overflow_mul-start : goal.overflow_mul-start
overflow_mul-start g c =
    let fits = c.requires.fits.fits in
    let row = row_fits c.args.self.now.area c.args.self.now.plane_cfg _ c.args.y fits c.requires.in_area in
    omega (arith, row, fits.storage.few)

pub overflow_add-start-2 : goal.overflow_add-start-2
overflow_add-start-2 g c =
    let fits = c.requires.fits.fits in
    let row = row_fits c.args.self.now.area c.args.self.now.plane_cfg _ c.args.y fits c.requires.in_area in
    omega (arith, row, fits.storage.few)

pub part_mut-requires : goal.part_mut-requires
part_mut-requires g c = row_fits c.args.self.now.area c.args.self.now.plane_cfg _ c.args.y c.requires.fits.fits c.requires.in_area
