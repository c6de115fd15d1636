use Rattle.av1_frame.proofs.Depths.{below_depth}
use Rattle.av1_frame.proofs.math.clip.Goals as goal

pub from_u32-requires : goal.from_u32-requires
from_u32-requires g c = below_depth _ _ _ c.clip_number.ensures.fits c.requires.depth
