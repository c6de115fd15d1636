use Rattle.av1_dct.proofs.LaneOperations.{lane_splat}
use Rattle.av1_dct.proofs.word.I32x4Word.splat.Goals as goal

pub returns : goal.returns
returns c = λ i h. lane_splat 4 c.args.v i h c.ranges.v
