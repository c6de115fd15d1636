use Rattle.std.proofs.Common.{arith}
use Rattle.av1_frame.proofs.Depths.{half_below}
use Rattle.av1_intra.proofs.dc.half_sample.Goals as goal

pub from_u32-requires : goal.from_u32-requires
from_u32-requires g c =
    let r = c.base.ensures in omega (arith, half_below _ _ _ r.room r.some c.requires.high)
