use Rattle.std.proofs.Common.{◌≡◌, ℕ, ◌+◌, ◌-◌, ◌&&◌, cond, ltb, leb}
use Rattle.av1_dct.specs.Arithmetic.{at}
use Rattle.av1_itx.proofs.words.I32x4BlockWord.write.Given as goal

abbrev pub invariant-loop-k : goal.invariant-loop-k
invariant-loop-k l = (p : ℕ) → at l.values p ≡ cond (leb l.start p && ltb p (l.start + l.k)) (at l.lanes (p - l.start)) (at l.initial.values p)
