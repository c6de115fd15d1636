use Rattle.av1_itx.proofs.NoWrap.{never_wraps, walsh_never_wraps}
use Rattle.av1_itx.proofs.laws.networks_never_wrap.Goals as goal

pub returns-clause-narrow : goal.returns-clause-narrow
returns-clause-narrow c = never_wraps

pub returns-clause-lossless : goal.returns-clause-lossless
returns-clause-lossless c = walsh_never_wraps
