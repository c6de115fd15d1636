use Rattle.std.proofs.Common.{◌+◌, ◌*◌, pos, map, slice_index}
use Rattle.av1_inter.specs.Scaffolding.{crossed}
use Rattle.av1_inter.proofs.EightSums.{ArePairs}
use Rattle.av1_inter.proofs.words.sixteen_sums.Given as goal

abbrev pub invariant-loop-pair : goal.invariant-loop-pair
invariant-loop-pair g l =
    ArePairs 16 16 g.row.ZEROS l.pair l.halves (λ c t. pos (slice_index (map g.T.Pixel.num l.source) (l.start + crossed c + t * l.step))) l.sums
