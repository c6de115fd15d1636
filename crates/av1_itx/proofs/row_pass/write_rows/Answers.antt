use Rattle.std.proofs.Common.{◌+◌, ◌*◌, ◌∙◌, ℤ, ap, sym, subst, arith, length}
use Rattle.av1_dct.specs.Arithmetic.{FitsBits, at, clamp_value}
use Rattle.av1_dct.specs.Word.{column}
use Rattle.av1_dct.proofs.Places.{column_get}
use Rattle.av1_frame.specs.Arithmetic.{round_shift}
use Rattle.av1_itx.proofs.Lines.{columns_more, column_written}
use Rattle.av1_itx.proofs.row_pass.write_rows.Goals as goal

pub rounded-requires-clause-fits : goal.rounded-requires-clause-fits
rounded-requires-clause-fits g c = λ i h.
    let P : ℤ → Type 0 = λ z. FitsBits 24 z in
    subst P (sym (column_get g.W.Word.lane_of i c.args.line.now c.loop-c.c c.index-line-c.result (omega arith) c.index-line-c.is))
    (c.requires.fit i h c.loop-c.c)

pub loop-c-preserved : goal.loop-c-preserved
loop-c-preserved g c =
    let lane = g.W.Word.lane_of in
    let line = c.args.line.now in
    let w = length line in
    let z = λ (v : ℤ). clamp_value (round_shift v c.args.shift) c.args.range in
    columns_more w c.loop-c.c g.W.Word.LANES c.spread_word.new.part c.loop-c.part (lane c.rounded.result)
    (λ i q. z (at (column lane i line) q))
    (λ i q. at c.args.part.now (i * w + q)) c.loop-c.invariant c.spread_word.ensures
    (λ i h. c.rounded.ensures i h ∙ ap z (column_get lane i line c.loop-c.c c.index-line-c.result (omega arith) c.index-line-c.is))

pub returns : goal.returns
returns g c = λ i q hi hq.
    let line = c.args.line.now in
    let w = length line in
    column_written w w c.loop-c.c g.W.Word.LANES c.loop-c.part c.args.part.now
    (λ i q. clamp_value (round_shift (at (column g.W.Word.lane_of i line) q) c.args.shift) c.args.range) c.loop-c.invariant (omega arith) (omega arith) i q hi
    hq
