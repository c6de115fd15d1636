use Rattle.av1_sequence.proofs.PlanLengths.{plans_have_length}
use Rattle.av1_sequence.proofs.laws.plans_have_their_length.Goals as goal

pub returns : goal.returns
returns c = plans_have_length
