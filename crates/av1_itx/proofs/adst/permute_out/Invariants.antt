use Rattle.std.proofs.Common.{ℕ, ◌*◌, ◌<◌, length}
use Rattle.av1_dct.specs.Word.{column}
use Rattle.av1_dct.proofs.Begun.{IsBegun}
use Rattle.av1_itx.specs.Adst.{adst_out}
use Rattle.av1_itx.proofs.adst.permute_out.Given as goal

abbrev pub invariant-loop-p : goal.invariant-loop-p
invariant-loop-p g l = (i : ℕ) → i < g.W.Word.LANES →
    IsBegun (length l.initial.output) (adst_out l.fn.k (column g.W.Word.lane_of i l.v)) (column g.W.Word.lane_of i l.initial.output) (2 * l.p)
    (column g.W.Word.lane_of i l.output)
