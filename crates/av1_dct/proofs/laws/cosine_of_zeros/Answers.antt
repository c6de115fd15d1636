use Rattle.av1_dct.proofs.Zero.{zeros}
use Rattle.av1_dct.proofs.laws.cosine_of_zeros.Goals as goal

pub returns : goal.returns
returns c = zeros
