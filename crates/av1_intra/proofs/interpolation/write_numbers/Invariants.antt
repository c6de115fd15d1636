use Rattle.std.proofs.Common.{◌≡◌, ℕ, ◌<◌, ◌+◌, List}
use Rattle.av1_frame.specs.Samples.{paint_row}
use Rattle.av1_intra.specs.Sides.{entries}
use Rattle.av1_intra.proofs.interpolation.write_numbers.Given as goal

abbrev pub invariant-loop-c : goal.invariant-loop-c
invariant-loop-c g l =
    (f : ℕ → g.row.T.Denot → g.row.T.Denot) (s : List g.row.T.Denot) → l.initial.row ≡ paint_row l.start f s →
    ((c : ℕ) (v : g.row.T.Denot) → c < g.row.N → g.T.Pixel.pixel (entries l.numbers (l.from + c)) ≡ f (l.start + c) v) → l.row ≡ paint_row (l.start + l.c) f s
