use Rattle.std.proofs.Common.{◌≡◌, ◌<◌, ◌^◌, ℕ, List, length}
use Rattle.av1_intra.specs.Scaffolding.{IsSmoothed}
use Rattle.av1_intra.proofs.edge_filter.smooth_rest.Given as goal

pub record Smoothing {X : Type 0} (num : X → ℕ) (pixel : ℕ → X) (BITS n strength first i c d a b : ℕ) (start edge : List X) : Type 0 where
  pub a_fits : a < 2 ^ BITS
  pub b_fits : b < 2 ^ BITS
  pub long : length edge ≡ length start
  pub step : (old : List X) → IsSmoothed num pixel n strength old start first c d → IsSmoothed num pixel n strength old edge i a b

abbrev pub invariant-loop-i : goal.invariant-loop-i
invariant-loop-i g l =
    Smoothing g.T.Pixel.num g.T.Pixel.pixel g.T.Pixel.BITS l.last g.row.STRENGTH l.fn.first l.i l.initial.a l.initial.b l.a l.b l.initial.edge l.edge
