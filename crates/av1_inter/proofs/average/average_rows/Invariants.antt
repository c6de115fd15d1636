use Rattle.std.proofs.Common.{◌≡◌, ◌+◌, ◌*◌}
use Rattle.av1_frame.specs.Samples.{corner, paint}
use Rattle.av1_inter.specs.Motion.{averaged, entry}
use Rattle.av1_inter.proofs.average.average_rows.Given as goal

abbrev pub invariant-loop-r : goal.invariant-loop-r
invariant-loop-r g l =
    l.samples ≡ paint l.stride (corner l.area l.area.width l.r)
    (λ r c _. g.T.Pixel.pixel (averaged l.bit_depth (entry l.tmp1 (r * l.area.width + c)) (entry l.tmp2 (r * l.area.width + c)))) l.initial.samples
