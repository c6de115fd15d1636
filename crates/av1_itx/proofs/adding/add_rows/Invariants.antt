use Rattle.std.proofs.Common.{◌≡◌, pos, ◌+ℤ◌, ◌+◌, ◌*◌}
use Rattle.av1_frame.specs.Arithmetic.{clip, round_shift}
use Rattle.av1_frame.specs.Samples.{corner, paint}
use Rattle.av1_dct.specs.Arithmetic.{at}
use Rattle.av1_itx.proofs.adding.add_rows.Given as goal

abbrev pub invariant-loop-r : goal.invariant-loop-r
invariant-loop-r g l =
    l.samples ≡ paint l.stride (corner l.area l.area.width l.r)
    (λ r c v. g.T.Pixel.pixel (clip l.bd (pos (g.T.Pixel.num v) +ℤ round_shift (at l.buffer (r * l.area.width + c)) g.row.SHIFT))) l.initial.samples
