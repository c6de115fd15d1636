use Rattle.av1_order.proofs.Turns.{edges_are_answered, sides_are_answered}
use Rattle.av1_order.proofs.laws.edges_are_answered.Goals as goal

pub returns-clause-edges : goal.returns-clause-edges
returns-clause-edges c = edges_are_answered

pub returns-clause-sides : goal.returns-clause-sides
returns-clause-sides c = sides_are_answered
