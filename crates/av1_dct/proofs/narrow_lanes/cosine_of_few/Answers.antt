use Rattle.std.proofs.Common.{arith}
use Rattle.av1_dct.proofs.narrow_lanes.cosine_of_few.Goals as goal

pub cosine_short_of-requires-clause-zeros : goal.cosine_short_of-requires-clause-zeros
cosine_short_of-requires-clause-zeros g c = λ i p h le lt. c.are_zero.ensures c.if-are_zero.true i p h le (omega (arith, lt, c.requires.n_in))

pub cosine_short_of-requires-else-are_zero-clause-zeros : goal.cosine_short_of-requires-else-are_zero-clause-zeros
cosine_short_of-requires-else-are_zero-clause-zeros g c = λ i p h le lt. absurd (omega (arith, le, lt, c.requires.n_in))
