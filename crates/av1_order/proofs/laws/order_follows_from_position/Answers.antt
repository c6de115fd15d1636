use Rattle.av1_order.proofs.Planes.{order_by_places}
use Rattle.av1_order.proofs.laws.order_follows_from_position.Goals as goal

pub returns : goal.returns
returns c = order_by_places
