use Rattle.std.proofs.Common.{◌+◌, pos, map, slice_index, cond, ltb}
use Rattle.av1_inter.proofs.Fill.{IsLine}
use Rattle.av1_inter.proofs.words.eight_from.Given as goal

abbrev pub invariant-loop-c : goal.invariant-loop-c
invariant-loop-c g l = IsLine 8 l.c (λ k. pos (cond (ltb k g.row.N) (slice_index (map g.T.Pixel.num l.source) (l.start + k)) 0)) l.values
