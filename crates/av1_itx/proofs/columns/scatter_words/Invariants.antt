use Rattle.std.proofs.Common.{◌≡◌, ℕ, ◌<◌, ◌+◌, ◌-◌, ◌*◌, ◌&&◌, cond, ltb, leb, length}
use Rattle.av1_dct.specs.Arithmetic.{at}
use Rattle.av1_dct.specs.Word.{column}
use Rattle.av1_itx.proofs.columns.scatter_words.Given as goal

abbrev pub invariant-loop-r : goal.invariant-loop-r
invariant-loop-r g l = (r q : ℕ) → r < length l.line → q < l.w →
    at l.buffer (r * l.w + q) ≡ cond (ltb r l.r && (leb l.c q && ltb q (l.c + g.W.Word.LANES))) (at (column g.W.Word.lane_of (q - l.c) l.line) r)
    (at l.initial.buffer (r * l.w + q))
