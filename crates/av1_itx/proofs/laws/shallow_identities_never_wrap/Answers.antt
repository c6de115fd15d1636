use Rattle.av1_itx.proofs.NoWrap.{lossless_residue, shallow_residue}
use Rattle.av1_itx.proofs.laws.shallow_identities_never_wrap.Goals as goal

pub returns-clause-identities : goal.returns-clause-identities
returns-clause-identities c = shallow_residue

pub returns-clause-lossless : goal.returns-clause-lossless
returns-clause-lossless c = lossless_residue
