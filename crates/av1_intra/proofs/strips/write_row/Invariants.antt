use Rattle.std.proofs.Common.{◌≡◌, ◌+◌, ◌*◌}
use Rattle.av1_frame.specs.Samples.{paint_row}
use Rattle.av1_intra.specs.Sides.{entries}
use Rattle.av1_intra.proofs.strips.write_row.Given as goal

abbrev pub invariant-loop-g : goal.invariant-loop-g
invariant-loop-g g l = l.row ≡ paint_row (g.row.N * l.g) (λ c _. g.T.Pixel.pixel (entries l.strip (l.from + c))) l.initial.row
