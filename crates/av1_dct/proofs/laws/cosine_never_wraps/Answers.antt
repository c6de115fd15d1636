use Rattle.av1_dct.proofs.NoWrap.{never_wraps}
use Rattle.av1_dct.proofs.laws.cosine_never_wraps.Goals as goal

pub returns : goal.returns
returns c = never_wraps
