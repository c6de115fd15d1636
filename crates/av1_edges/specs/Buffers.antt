-- The buffer after a call that prepares an edge.
use Rattle.std.specs.Prelude.{◌≡◌}
use Rattle.std.specs.Io.BufRead.{Rests}
use Rattle.std.specs.Borrow.{MutBor, Fml, RattleType}
use Rattle.av1_edges.specs.declared.buffer.IntraEdgeBuffer.{IntraEdgeBuffer}
use Rattle.av1_edges.specs.contracts.buffer.IntraEdgeBuffer.{the_row}
use Rattle.av1_lists.specs.Counts.{counted}

-- the buffer counts one more edge, once the edge that was prepared in it is no longer used
abbrev pub CountsOne : (T : RattleType) → MutBor (IntraEdgeBuffer T.Denot) → Fml
CountsOne T buffer = Rests (the_row T) buffer (λ after. after.prepared ≡ counted buffer.now.prepared)
