use Rattle.av1_itx.proofs.Lossless.{determined}
use Rattle.av1_itx.proofs.laws.walsh_loses_nothing.Goals as goal

pub returns : goal.returns
returns c = determined
