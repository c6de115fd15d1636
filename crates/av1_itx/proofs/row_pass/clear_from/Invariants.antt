use Rattle.std.proofs.Common.{◌≡◌, ℕ, ◌<◌, cond, ltb, pos}
use Rattle.av1_dct.specs.Arithmetic.{at}
use Rattle.av1_dct.specs.Word.{column}
use Rattle.av1_itx.proofs.row_pass.clear_from.Given as goal

abbrev pub invariant-loop-c : goal.invariant-loop-c
invariant-loop-c g l = (i : ℕ) → i < g.W.Word.LANES → (q : ℕ) → q < l.c →
    at (column g.W.Word.lane_of i l.line) q ≡ cond (ltb q l.start) (at (column g.W.Word.lane_of i l.initial.line) q) (pos 0)
