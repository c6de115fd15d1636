use Rattle.std.proofs.Common.{◌≡◌, ℕ, ◌<◌, pos}
use Rattle.av1_dct.specs.Arithmetic.{at}
use Rattle.av1_itx.proofs.row_pass.clear_piece.Given as goal

abbrev pub invariant-loop-v : goal.invariant-loop-v
invariant-loop-v l = (k : ℕ) → k < l.v-index → at l.line k ≡ pos 0
