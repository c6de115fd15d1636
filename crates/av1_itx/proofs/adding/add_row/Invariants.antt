use Rattle.std.proofs.Common.{◌≡◌, pos, ◌+ℤ◌, ◌+◌, ◌*◌}
use Rattle.av1_frame.specs.Arithmetic.{clip, round_shift}
use Rattle.av1_frame.specs.Samples.{paint_row}
use Rattle.av1_dct.specs.Arithmetic.{at}
use Rattle.av1_itx.proofs.adding.add_row.Given as goal

abbrev pub invariant-loop-g : goal.invariant-loop-g
invariant-loop-g g l =
    l.samples ≡ paint_row (l.m * l.g)
    (λ c v. g.T.Pixel.pixel (clip l.bd (pos (g.T.Pixel.num v) +ℤ round_shift (at l.buffer (l.start + c)) g.row.SHIFT))) l.initial.samples
