use Rattle.av1_tiles.proofs.Outcomes.{one_outcome}
use Rattle.av1_tiles.proofs.laws.outcomes_are_one.Goals as goal

pub returns : goal.returns
returns c = one_outcome
