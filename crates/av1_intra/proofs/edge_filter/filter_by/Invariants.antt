use Rattle.std.proofs.Common.{◌≡◌, ◌+◌, ◌-◌, ◌*◌, ◌<◌, ◌^◌, ℕ, List, length}
use Rattle.av1_intra.specs.Scaffolding.{IsSmoothed}
use Rattle.av1_intra.proofs.edge_filter.filter_by.Given as goal

pub record Smoothed {X : Type 0} (num : X → ℕ) (pixel : ℕ → X) (BITS n strength i a b : ℕ) (old edge : List X) : Type 0 where
  pub a_fits : a < 2 ^ BITS
  pub b_fits : b < 2 ^ BITS
  pub long : length edge ≡ length old
  pub window : IsSmoothed num pixel n strength old edge i a b

abbrev pub invariant-loop-i : goal.invariant-loop-i
invariant-loop-i g l =
    Smoothed g.T.Pixel.num g.T.Pixel.pixel g.T.Pixel.BITS (l.fn.size - 1) g.row.STRENGTH (4 * l.i + 1) l.a l.b l.initial.edge l.edge
