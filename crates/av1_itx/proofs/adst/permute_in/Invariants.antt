use Rattle.std.proofs.Common.{ℕ, ◌*◌, ◌<◌}
use Rattle.av1_dct.specs.Word.{column}
use Rattle.av1_dct.proofs.Begun.{IsBegun}
use Rattle.av1_itx.specs.Adst.{adst_in}
use Rattle.av1_itx.proofs.adst.permute_in.Given as goal

abbrev pub invariant-loop-p : goal.invariant-loop-p
invariant-loop-p g l = (i : ℕ) → i < g.W.Word.LANES →
    IsBegun l.n (adst_in l.n (column g.W.Word.lane_of i l.input)) (column g.W.Word.lane_of i l.initial.v) (2 * l.p) (column g.W.Word.lane_of i l.v)
