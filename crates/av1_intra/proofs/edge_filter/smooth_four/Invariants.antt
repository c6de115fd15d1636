use Rattle.std.proofs.Common.{◌≡◌, ◌+◌, ◌<◌, ◌≤◌, ◌^◌, ℕ, List, length}
use Rattle.av1_intra.specs.Scaffolding.{IsSmoothed}
use Rattle.av1_intra.proofs.edge_filter.smooth_four.Given as goal

pub record Smoothing {X : Type 0} (num : X → ℕ) (pixel : ℕ → X) (BITS strength first k c d a b : ℕ) (start edge : List X) : Type 0 where
  pub a_fits : a < 2 ^ BITS
  pub b_fits : b < 2 ^ BITS
  pub long : length edge ≡ length start
  pub step : (old : List X) (n : ℕ) → first + 5 ≤ n → IsSmoothed num pixel n strength old start first c d
      → IsSmoothed num pixel n strength old edge (first + k) a b

abbrev pub invariant-loop-k : goal.invariant-loop-k
invariant-loop-k g l =
    Smoothing g.T.Pixel.num g.T.Pixel.pixel g.T.Pixel.BITS g.row.STRENGTH l.first l.k l.initial.a l.initial.b l.a l.b l.initial.edge l.edge
