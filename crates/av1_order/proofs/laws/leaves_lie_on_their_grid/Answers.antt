use Rattle.av1_order.proofs.Frame.{leaves_lie_on_grid}
use Rattle.av1_order.proofs.laws.leaves_lie_on_their_grid.Goals as goal

pub returns : goal.returns
returns c = leaves_lie_on_grid
