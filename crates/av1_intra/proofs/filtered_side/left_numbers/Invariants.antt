use Rattle.std.proofs.Common.{◌≡◌, ◌+◌, map, take, replicate, reverse}
use Rattle.av1_frame.specs.Samples.{paint_row}
use Rattle.av1_intra.specs.Directional.{side}
use Rattle.av1_intra.proofs.filtered_side.left_numbers.Given as goal

abbrev pub invariant-loop-k : goal.invariant-loop-k
invariant-loop-k g l =
    l.numbers ≡ paint_row (l.k + 1) (λ e _. side (g.T.Pixel.num l.fn.corner) (take l.count (reverse (map g.T.Pixel.num l.left))) e) (replicate 257 0)
