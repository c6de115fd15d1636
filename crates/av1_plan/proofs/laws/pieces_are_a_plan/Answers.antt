use Rattle.av1_plan.proofs.Composed.{pieces_are_plan}
use Rattle.av1_plan.proofs.Continued.{pieces_are_refused, plan_is_pieces}
use Rattle.av1_plan.proofs.laws.pieces_are_a_plan.Goals as goal

pub returns-clause-whole : goal.returns-clause-whole
returns-clause-whole c = pieces_are_plan

pub returns-clause-apart : goal.returns-clause-apart
returns-clause-apart c = plan_is_pieces

pub returns-clause-refused : goal.returns-clause-refused
returns-clause-refused c = pieces_are_refused
