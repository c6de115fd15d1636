use Rattle.std.proofs.Common.{◌≡◌, ◌*◌, ◌^◌, ◌-ℤ◌, pos, map, slice_index}
use Rattle.av1_frame.specs.Samples.{paint_row}
use Rattle.av1_inter.specs.Motion.{bias, intermediate_bits}
use Rattle.av1_inter.proofs.copies.widen_row.Given as goal

abbrev pub invariant-loop-c : goal.invariant-loop-c
invariant-loop-c g l =
    l.row ≡ paint_row l.c (λ c _. pos (slice_index (map g.T.Pixel.num l.source) c * 2 ^ intermediate_bits l.bit_depth) -ℤ bias l.bit_depth) l.initial.row
