use Rattle.std.proofs.Common.{◌≡◌, ℕ, ◌<◌, ◌*◌, pos}
use Rattle.av1_dct.specs.Arithmetic.{at}
use Rattle.av1_itx.proofs.row_pass.clear.Given as goal

abbrev pub invariant-loop-g : goal.invariant-loop-g
invariant-loop-g l = (k : ℕ) → k < l.g * 256 → at l.line k ≡ pos 0
