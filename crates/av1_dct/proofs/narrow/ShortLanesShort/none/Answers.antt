use Rattle.av1_dct.proofs.Shorts.{short_zeros}
use Rattle.av1_dct.proofs.narrow.ShortLanesShort.none.Goals as goal

pub returns : goal.returns
returns c = short_zeros
