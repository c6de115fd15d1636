use Rattle.std.proofs.Common.{◌≡◌, ◌+◌, ◌-◌, ◌*◌, cond, leb}
use Rattle.av1_frame.specs.Samples.{paint_row}
use Rattle.av1_intra.specs.Sides.{entries}
use Rattle.av1_intra.specs.Directional.{at}
use Rattle.av1_intra.proofs.strips.write_merged.Given as goal

abbrev pub invariant-loop-g : goal.invariant-loop-g
invariant-loop-g g l =
    l.row ≡ paint_row (g.row.N * l.g)
    (λ c _. g.T.Pixel.pixel (cond (leb l.line (64 * (c + 1))) (at l.bit_depth (entries l.above.numbers) l.above.upsampling (64 * (c + 1) - l.line) 0)
    (entries l.strip (l.from + c)))) l.initial.row
