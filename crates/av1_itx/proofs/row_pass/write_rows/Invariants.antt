use Rattle.std.proofs.Common.{◌≡◌, ℕ, ◌<◌, ◌+◌, ◌*◌, cond, ltb}
use Rattle.av1_dct.specs.Arithmetic.{at, clamp_value}
use Rattle.av1_dct.specs.Word.{column}
use Rattle.av1_frame.specs.Arithmetic.{round_shift}
use Rattle.av1_itx.proofs.row_pass.write_rows.Given as goal

abbrev pub invariant-loop-c : goal.invariant-loop-c
invariant-loop-c g l =
    (i q : ℕ) → i < g.W.Word.LANES → q < l.w →
    at l.part (i * l.w + q) ≡ cond (ltb q l.c) (clamp_value (round_shift (at (column g.W.Word.lane_of i l.line) q) l.shift) l.range)
    (at l.initial.part (i * l.w + q))
