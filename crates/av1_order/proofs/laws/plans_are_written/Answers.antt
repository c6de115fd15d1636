use Rattle.av1_order.proofs.Turns.{plans_are_written}
use Rattle.av1_order.proofs.laws.plans_are_written.Goals as goal

pub returns : goal.returns
returns c = plans_are_written
