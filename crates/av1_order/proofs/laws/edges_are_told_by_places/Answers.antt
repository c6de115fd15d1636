use Rattle.av1_order.proofs.Edges.{edges_by_places}
use Rattle.av1_order.proofs.laws.edges_are_told_by_places.Goals as goal

pub returns : goal.returns
returns c = edges_by_places
