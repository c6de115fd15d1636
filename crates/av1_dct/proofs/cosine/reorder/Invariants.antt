use Rattle.std.proofs.Common.{ℕ, suc, ◌≡◌, ◌<◌}
use Rattle.av1_dct.specs.Arithmetic.{at}
use Rattle.av1_dct.specs.Word.{column}
use Rattle.av1_dct.specs.Cosine.{brev}
use Rattle.av1_dct.proofs.cosine.reorder.Given as goal

abbrev pub invariant-loop-p : goal.invariant-loop-p
invariant-loop-p g l =
    (i : ℕ) → i < g.W.Butterfly.LANES → (q : ℕ) → q < l.p →
    at (column g.W.Butterfly.lane_of i l.output) q ≡ at (column g.W.Butterfly.lane_of i l.input) (brev (suc g.row.K) q)
