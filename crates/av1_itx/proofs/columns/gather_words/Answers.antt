use Rattle.std.proofs.Common.{arith, ap, ◌≡◌, ◌∙◌, ◌+◌, ◌*◌, pos}
use Rattle.std.proofs.lemmas.List.{length-map}
use Rattle.std.proofs.lemmas.List.FromFn.{fill_by_all}
use Rattle.av1_dct.specs.Arithmetic.{at}
use Rattle.av1_dct.proofs.Places.{column_fill}
use Rattle.av1_itx.proofs.columns.gather_words.Goals as goal

pub loop-r-preserved : goal.loop-r-preserved
loop-r-preserved g c = λ i h.
    let old = c.args.buffer.now in
    let r = c.loop-r.r in
    let e : r * c.args.w + c.args.c + i ≡ r * c.args.w + (c.args.c + i) = omega arith in
    column_fill g.W.Word.lane_of i (λ q. at old (q * c.args.w + (c.args.c + i))) c.loop-r.line r _ (omega arith) (c.loop-r.invariant i h)
    (c.read.ensures i h ∙ ap (at old) e)

pub returns : goal.returns
returns g c = λ i h. fill_by_all _ _ _ (pos 0) (length-map c.loop-r.line _ ∙ c.loop-r.auto.line) (λ q lt. c.loop-r.invariant i h q (omega arith))
