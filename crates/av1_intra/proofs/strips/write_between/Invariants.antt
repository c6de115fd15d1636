use Rattle.std.proofs.Common.{ℕ, ◌≡◌, ◌<◌, ◌+◌, ◌-◌, ◌*◌, cond, leb, List}
use Rattle.av1_frame.specs.Samples.{corner, paint}
use Rattle.av1_intra.specs.Sides.{entries}
use Rattle.av1_intra.specs.Directional.{at}
use Rattle.av1_intra.proofs.strips.write_between.Given as goal

abbrev pub invariant-loop-r : goal.invariant-loop-r
invariant-loop-r g l =
    (f : ℕ → ℕ → g.row.T.Denot → g.row.T.Denot) (s : List g.row.T.Denot) → l.initial.samples ≡ paint l.stride (corner l.area l.area.width l.first) f s →
    ((r c : ℕ) (v : g.row.T.Denot) → r < l.fn.rows → c < l.area.width → g.T.Pixel.pixel (cond (leb ((l.first + r + 1) * l.dx) (64 * (c + 1)))
    (at l.bit_depth (entries l.above.numbers) l.above.upsampling (64 * (c + 1) - (l.first + r + 1) * l.dx) 0) (entries l.strip (g.row.STEP * r + c)))
    ≡ f (l.first + r) c v) → l.samples ≡ paint l.stride (corner l.area l.area.width (l.first + l.r)) f s
