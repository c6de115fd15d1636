use Rattle.av1_replay.proofs.Powers.{deeper}
use Rattle.av1_replay.proofs.drawn.sample_of.Goals as goal

pub from_u32-requires : goal.from_u32-requires
from_u32-requires g c = deeper c.args.number c.args.depth g.T.Pixel.BITS c.requires.deep c.requires.within
