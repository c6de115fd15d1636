use Rattle.std.proofs.Common.{◌≡◌, ℕ, ◌<◌, ◌≤◌, pos}
use Rattle.av1_dct.specs.Arithmetic.{at}
use Rattle.av1_dct.specs.Word.{column, lane_of_vector}
use Rattle.av1_dct.proofs.narrow_lanes.are_zero.Given as goal

abbrev pub invariant-loop-p : goal.invariant-loop-p
invariant-loop-p l = (i q : ℕ) → i < 8 → l.first ≤ q → q < l.p → at (column lane_of_vector i l.input) q ≡ pos 0
