use Rattle.std.proofs.Common.{◌≡◌, ℕ, ◌<◌, ◌+◌, List, get_or}
use Rattle.av1_frame.specs.Samples.{paint_row}
use Rattle.av1_intra.proofs.row_lines.write_line.Given as goal

abbrev pub invariant-loop-c : goal.invariant-loop-c
invariant-loop-c g l =
    (f : ℕ → g.row.T.Denot → g.row.T.Denot) (s : List g.row.T.Denot) → l.initial.row ≡ paint_row l.start f s →
    ((c : ℕ) (v : g.row.T.Denot) → c < g.row.N → get_or l.line c v ≡ f (l.start + c) v) → l.row ≡ paint_row (l.start + l.c) f s
