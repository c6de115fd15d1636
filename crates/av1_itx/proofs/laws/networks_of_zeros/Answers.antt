use Rattle.av1_itx.proofs.Zeros.{zeros}
use Rattle.av1_itx.proofs.laws.networks_of_zeros.Goals as goal

pub returns : goal.returns
returns c = zeros
