use Rattle.av1_order.proofs.Asked.{calls_answer_order, edges_as_asked}
use Rattle.av1_order.proofs.laws.availability_matches_order.Goals as goal

pub returns-clause-asked : goal.returns-clause-asked
returns-clause-asked c = edges_as_asked

pub returns-clause-answered : goal.returns-clause-answered
returns-clause-answered c = calls_answer_order
