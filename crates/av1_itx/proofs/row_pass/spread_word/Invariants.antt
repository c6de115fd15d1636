use Rattle.std.proofs.Common.{◌≡◌, ℕ, ◌<◌, ◌+◌, ◌*◌, ◌==◌, cond, ltb}
use Rattle.av1_dct.specs.Arithmetic.{at}
use Rattle.av1_itx.proofs.row_pass.spread_word.Given as goal

abbrev pub invariant-loop-i : goal.invariant-loop-i
invariant-loop-i g l = (j q : ℕ) → j < g.W.Word.LANES → q < l.w →
    at l.part (j * l.w + q) ≡ cond (q == l.c) (cond (ltb j l.i) (g.W.Word.lane_of l.word j) (at l.initial.part (j * l.w + q)))
    (at l.initial.part (j * l.w + q))
