use Rattle.av1_sequence.proofs.FileOutcomes.{one_outcome, some_outcome}
use Rattle.av1_sequence.proofs.laws.sequence_outcome_laws.Goals as goal

pub returns-clause-some : goal.returns-clause-some
returns-clause-some c = some_outcome

pub returns-clause-one : goal.returns-clause-one
returns-clause-one c = one_outcome
