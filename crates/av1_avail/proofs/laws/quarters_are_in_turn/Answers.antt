use Rattle.av1_avail.proofs.SquareOrder.{quarters_in_turn}
use Rattle.av1_avail.proofs.laws.quarters_are_in_turn.Goals as goal

pub returns : goal.returns
returns c = quarters_in_turn
