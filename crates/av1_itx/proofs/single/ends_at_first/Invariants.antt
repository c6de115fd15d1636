use Rattle.std.proofs.Common.{◌≡◌, ℕ, ◌<◌, pos, map}
use Rattle.av1_dct.specs.Arithmetic.{at}
use Rattle.av1_itx.proofs.single.ends_at_first.Given as goal

abbrev pub invariant-loop-i : goal.invariant-loop-i
invariant-loop-i g l = (k : ℕ) → 0 < k → k < l.i → at (map g.C.Coefficient.val l.input) k ≡ pos 0
