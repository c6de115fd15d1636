use Rattle.std.proofs.Common.{arith}
use Rattle.av1_frame.proofs.Regions.{rows_stand}
use Rattle.av1_frame.proofs.plane_region.PlaneRegionMut.rows_mut.Goals as goal

pub part_mut-requires : goal.part_mut-requires
part_mut-requires g c = let m = rows_stand c.args.self.now c.requires.fits in grind arith
