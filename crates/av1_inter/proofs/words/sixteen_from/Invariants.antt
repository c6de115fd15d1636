use Rattle.std.proofs.Common.{◌+◌, pos, map, slice_index}
use Rattle.av1_inter.proofs.Fill.{IsLine}
use Rattle.av1_inter.proofs.words.sixteen_from.Given as goal

abbrev pub invariant-loop-c : goal.invariant-loop-c
invariant-loop-c g l = IsLine 16 l.c (λ k. pos (slice_index (map g.T.Pixel.num l.source) (l.start + k))) l.values
