use Rattle.av1_tile.specs.Output.{planes_of}
use Rattle.av1_recon.proofs.Outcomes.{some_outcome, one_outcome}
use Rattle.av1_recon.proofs.laws.outcome_laws.Goals as goal

pub returns-clause-some : goal.returns-clause-some
returns-clause-some c = some_outcome

pub returns-clause-one : goal.returns-clause-one
returns-clause-one c = λ bytes a b p q. one_outcome planes_of bytes b a q p
