use Rattle.std.proofs.Common.{◌≡◌}
use Rattle.av1_frame.specs.Samples.{corner, paint}
use Rattle.av1_inter.specs.Scaffolding.{filtered}
use Rattle.av1_inter.proofs.one_filter.filter_by.Given as goal

abbrev pub invariant-loop-r : goal.invariant-loop-r
invariant-loop-r g l =
    l.target ≡ paint l.stride (corner l.strip.area l.strip.area.width l.r)
    (λ r c _. g.W.Writer.written l.strip.bit_depth (filtered g.T.Pixel.num l.strip l.taps r c)) l.initial.target
