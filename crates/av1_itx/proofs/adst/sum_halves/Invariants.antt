use Rattle.std.proofs.Common.{ℕ, ◌/◌, ◌<◌, length}
use Rattle.av1_dct.specs.Word.{column}
use Rattle.av1_itx.specs.Adst.{adst_sum}
use Rattle.av1_itx.proofs.Fills.{IsHalved}
use Rattle.av1_itx.proofs.adst.sum_halves.Given as goal

abbrev pub invariant-loop-p : goal.invariant-loop-p
invariant-loop-p g l = (i : ℕ) → i < g.W.Word.LANES → let old = column g.W.Word.lane_of i l.initial.v
    in IsHalved l.s (adst_sum l.range (length l.initial.v / 2) old) old l.p (column g.W.Word.lane_of i l.v)
