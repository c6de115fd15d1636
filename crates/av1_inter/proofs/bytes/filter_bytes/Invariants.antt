use Rattle.std.proofs.Common.{◌+◌, pos, map, slice_index}
use Rattle.av1_inter.specs.Scaffolding.{settled, sum_from}
use Rattle.av1_inter.proofs.Fill.{IsLine}
use Rattle.av1_inter.proofs.bytes.filter_bytes.Given as goal

abbrev pub invariant-loop-c : goal.invariant-loop-c
invariant-loop-c g l =
    IsLine g.row.N l.c (λ k. settled l.rounding (sum_from l.halves (λ i. pos (slice_index (map g.T.Pixel.num l.source) i)) (l.start + k) l.step)) l.values
