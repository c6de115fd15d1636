use Rattle.av1_dct.proofs.Folding.{sums, differences}
use Rattle.av1_dct.proofs.laws.cosine_adds_halves.Goals as goal

pub returns-clause-sums : goal.returns-clause-sums
returns-clause-sums c = sums

pub returns-clause-differences : goal.returns-clause-differences
returns-clause-differences c = differences
