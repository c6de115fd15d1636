-- Edges whose samples lie within a depth.
use Rattle.std.specs.Prelude.{ℕ, ◌^◌, ◌<◌}
use Rattle.std.specs.List.{All}
use Rattle.av1_edges.specs.Edges.{Edge}

-- every number of the edge e is one of a sample of this depth
pub record EdgeIsWithin (depth : ℕ) (e : Edge) : Type 0 where
  pub above : All (λ n. n < 2 ^ depth) e.above
  pub left : All (λ n. n < 2 ^ depth) e.left
  pub corner : e.corner < 2 ^ depth
