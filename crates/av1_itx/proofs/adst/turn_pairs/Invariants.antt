use Rattle.std.proofs.Common.{ℕ, ◌*◌, ◌<◌, length}
use Rattle.av1_dct.specs.Word.{column}
use Rattle.av1_dct.proofs.Begun.{IsBegun}
use Rattle.av1_itx.proofs.Turns.{turned_by}
use Rattle.av1_itx.proofs.adst.turn_pairs.Given as goal

abbrev pub invariant-loop-p : goal.invariant-loop-p
invariant-loop-p g l = (i : ℕ) → i < g.W.Word.LANES → let old = column g.W.Word.lane_of i l.initial.v
    in IsBegun (length l.initial.v) (turned_by l.weights old) old (2 * l.p) (column g.W.Word.lane_of i l.v)
