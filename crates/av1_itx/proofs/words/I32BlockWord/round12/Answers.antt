use Rattle.av1_dct.proofs.Turns.{rounding_is}
use Rattle.av1_itx.proofs.words.I32BlockWord.round12.Goals as goal

pub returns : goal.returns
returns c = λ i h. rounding_is c.args.self c.ranges.self
