use Rattle.std.proofs.Common.{◌≡◌, ℕ, ◌<◌, ◌+◌, pos, ◌+ℤ◌, List}
use Rattle.av1_frame.specs.Arithmetic.{clip}
use Rattle.av1_frame.specs.Samples.{paint_row}
use Rattle.av1_itx.proofs.adding.add_word.Given as goal

abbrev pub invariant-loop-i : goal.invariant-loop-i
invariant-loop-i g l =
    (f : ℕ → g.row.T.Denot → g.row.T.Denot) (s : List g.row.T.Denot) → l.initial.samples ≡ paint_row l.start f s →
    ((i : ℕ) (v : g.row.T.Denot) → i < g.W.Word.LANES →
    g.T.Pixel.pixel (clip l.bd (pos (g.T.Pixel.num v) +ℤ g.W.Word.lane_of l.residues i)) ≡ f (l.start + i) v) →
    l.samples ≡ paint_row (l.start + l.i) f s
