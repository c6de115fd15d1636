use Rattle.std.proofs.Common.{◌+◌, ◌*◌, pos, map, slice_index}
use Rattle.av1_inter.proofs.EightSums.{ArePairs}
use Rattle.av1_inter.proofs.words.eight_sums.Given as goal

abbrev pub invariant-loop-pair : goal.invariant-loop-pair
invariant-loop-pair g l =
    ArePairs 8 g.row.N g.row.ZEROS l.pair l.halves (λ c t. pos (slice_index (map g.T.Pixel.num l.source) (l.start + c + t * l.step))) l.sums
