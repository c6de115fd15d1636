use Rattle.std.proofs.Common.{arith, ◌-◌, ◌+◌, ◌*◌, length}
use Rattle.av1_dct.specs.Arithmetic.{at}
use Rattle.av1_dct.specs.Word.{column}
use Rattle.av1_dct.proofs.Places.{column_get}
use Rattle.av1_itx.proofs.Lines.{lanes_row}
use Rattle.av1_itx.proofs.columns.scatter_words.Goals as goal

pub loop-r-preserved : goal.loop-r-preserved
loop-r-preserved g c =
    let lane = g.W.Word.lane_of in
    let line = c.args.line.now in
    let r = c.loop-r.r in
    lanes_row c.args.w c.args.c g.W.Word.LANES (length line) r (λ y q. at (column lane (q - c.args.c) line) y) (λ y q. at c.args.buffer.now (y * c.args.w + q))
    (lane c.index-line-r.result) c.loop-r.buffer c.write.new.values c.requires.columns_in (omega arith) c.write.ensures c.loop-r.invariant
    (λ q lo hi. column_get lane (q - c.args.c) line r c.index-line-r.result (omega arith) c.index-line-r.is)
