use Rattle.std.proofs.Common.{◌≡◌, ◌*◌}
use Rattle.av1_frame.specs.Samples.{paint_row}
use Rattle.av1_intra.specs.Sides.{entries}
use Rattle.av1_intra.specs.Directional.{below_90}
use Rattle.av1_intra.proofs.interpolation.row_below_90.Given as goal

abbrev pub invariant-loop-g : goal.invariant-loop-g
invariant-loop-g g l =
    l.row ≡ paint_row (g.row.N * l.g)
    (λ j _. g.T.Pixel.pixel (below_90 l.bit_depth (entries l.above.numbers) l.above.upsampling l.fn.sides l.fn.n j)) l.initial.row
