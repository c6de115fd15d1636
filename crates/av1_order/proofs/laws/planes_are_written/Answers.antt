use Rattle.av1_order.proofs.Edges.{planes_are_written}
use Rattle.av1_order.proofs.laws.planes_are_written.Goals as goal

pub returns : goal.returns
returns c = planes_are_written
