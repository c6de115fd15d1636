use Rattle.av1_order.proofs.Frame.{frames_are_tiled}
use Rattle.av1_order.proofs.laws.leaves_tile_the_frame.Goals as goal

pub returns : goal.returns
returns c = frames_are_tiled
