use Rattle.std.proofs.Common.{false}
use Rattle.av1_itx.proofs.Passes.{residue-zero}
use Rattle.av1_itx.proofs.laws.residue_of_zeros.Goals as goal

pub returns : goal.returns
returns c = residue-zero false
