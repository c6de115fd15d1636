use Rattle.std.proofs.Common.{◌≡◌, ◌*◌, ◌^◌, ◌-ℤ◌, pos}
use Rattle.av1_frame.specs.Samples.{corner, paint}
use Rattle.av1_inter.specs.Motion.{bias, intermediate_bits}
use Rattle.av1_inter.specs.Scaffolding.{sample_of}
use Rattle.av1_inter.proofs.copies.widen_rows.Given as goal

abbrev pub invariant-loop-r : goal.invariant-loop-r
invariant-loop-r g l =
    l.tmp ≡ paint l.stride (corner l.block.area l.block.area.width l.r)
    (λ r c _. pos (sample_of g.T.Pixel.num l.block c r * 2 ^ intermediate_bits l.block.bit_depth) -ℤ bias l.block.bit_depth) l.initial.tmp
