use Rattle.std.proofs.Common.{◌≡◌, ℕ, ◌<◌}
use Rattle.av1_dct.specs.Arithmetic.{at}
use Rattle.av1_dct.specs.Word.{column}
use Rattle.av1_itx.specs.Identity.{exact, scaled_with}
use Rattle.av1_itx.proofs.identity.exact_identity_of.Given as goal

abbrev pub invariant-loop-p : goal.invariant-loop-p
invariant-loop-p g l = (i : ℕ) → i < g.W.Word.LANES → (q : ℕ) → q < l.p →
    at (column g.W.Word.lane_of i l.output) q ≡ scaled_with exact l.k (at (column g.W.Word.lane_of i l.input) q)
