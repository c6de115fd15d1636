use Rattle.av1_tile.proofs.Residues.{samples_are_sums}
use Rattle.av1_tile.proofs.laws.samples_are_sums.Goals as goal

pub returns : goal.returns
returns c = samples_are_sums
