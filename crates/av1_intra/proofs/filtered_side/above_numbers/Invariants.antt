use Rattle.std.proofs.Common.{◌≡◌, ◌+◌, map, take, replicate}
use Rattle.av1_frame.specs.Samples.{paint_row}
use Rattle.av1_intra.specs.Directional.{side}
use Rattle.av1_intra.proofs.filtered_side.above_numbers.Given as goal

abbrev pub invariant-loop-k : goal.invariant-loop-k
invariant-loop-k g l =
    l.numbers ≡ paint_row (l.k + 1) (λ e _. side (g.T.Pixel.num l.fn.corner) (take l.count (map g.T.Pixel.num l.above)) e) (replicate 257 0)
