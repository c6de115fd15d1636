use Rattle.std.proofs.Common.{◌≡◌, ◌+◌, ◌*◌}
use Rattle.av1_frame.specs.Samples.{corner, paint}
use Rattle.av1_intra.specs.Sides.{entries}
use Rattle.av1_intra.specs.Directional.{below_90}
use Rattle.av1_intra.proofs.interpolation.rows_below_90_by.Given as goal

abbrev pub invariant-loop-i : goal.invariant-loop-i
invariant-loop-i g l =
    l.samples ≡ paint l.stride (corner l.area l.area.width l.i)
    (λ i j _. g.T.Pixel.pixel (below_90 l.bit_depth (entries l.above.numbers) l.above.upsampling l.sides ((i + 1) * l.dx + 64) j)) l.initial.samples
