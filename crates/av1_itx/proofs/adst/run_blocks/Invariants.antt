use Rattle.std.proofs.Common.{ℕ, ◌*◌, ◌<◌, length}
use Rattle.av1_dct.specs.Word.{column}
use Rattle.av1_dct.proofs.Begun.{IsBegun}
use Rattle.av1_itx.proofs.Blocks.{block_round}
use Rattle.av1_itx.proofs.adst.run_blocks.Given as goal

abbrev pub invariant-loop-b : goal.invariant-loop-b
invariant-loop-b g l =
    (i : ℕ) → i < g.W.Word.LANES →
    let old = column g.W.Word.lane_of i l.initial.v in
    IsBegun (length l.initial.v) (block_round l.range (2 * length l.weights) (length l.initial.v) old) old (l.b * l.n) (column g.W.Word.lane_of i l.v)
