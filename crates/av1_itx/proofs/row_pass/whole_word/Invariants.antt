use Rattle.std.proofs.Common.{◌≡◌, ℕ, ◌<◌, ◌+◌, length, map}
use Rattle.av1_dct.specs.Arithmetic.{at}
use Rattle.av1_itx.proofs.row_pass.whole_word.Given as goal

abbrev pub invariant-loop-i : goal.invariant-loop-i
invariant-loop-i g l =
    (length l.lanes ≡ 8) × ((q : ℕ) → q < l.i → at l.lanes q ≡ at (map g.C.Coefficient.val l.input) (l.start + q))
