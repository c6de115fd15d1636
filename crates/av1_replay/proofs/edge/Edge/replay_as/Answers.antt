use Rattle.std.proofs.Common.{◌≤◌, sym, subst}
use Rattle.av1_replay.proofs.Powers.{one_below}
use Rattle.av1_replay.proofs.edge.Edge.replay_as.Goals as goal

pub from_u32-requires : goal.from_u32-requires
from_u32-requires g c =
    one_below c.depth-depth.result g.T.Pixel.BITS c.depth-depth.ensures.depths
    (subst (λ depth. depth ≤ g.T.Pixel.BITS) (sym c.depth-depth.ensures.value) c.requires.deep)
