use Rattle.std.proofs.Common.{ℕ, ◌≡◌, ◌<◌}
use Rattle.av1_dct.specs.Arithmetic.{at}
use Rattle.av1_dct.specs.Word.{column, lane_of_vector}
use Rattle.av1_dct.proofs.narrow_lanes.spread_words.Given as goal

abbrev pub invariant-loop-p : goal.invariant-loop-p
invariant-loop-p g l = (i : ℕ) → i < 8 → (q : ℕ) → q < l.p → at (column lane_of_vector i l.output) q ≡ at (column g.S.Butterfly.lane_of i l.words) q
