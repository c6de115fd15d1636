use Rattle.std.proofs.Common.{pos, suc, arith, ◌∙◌, ap}
use Rattle.std.proofs.lemmas.List.{length-map}
use Rattle.std.proofs.lemmas.List.FromFn.{fill_by_all}
use Rattle.av1_dct.specs.Arithmetic.{at}
use Rattle.av1_dct.specs.Word.{column}
use Rattle.av1_dct.specs.Cosine.{brev}
use Rattle.av1_dct.proofs.Places.{column_fill, column_get}
use Rattle.av1_dct.proofs.cosine.reorder.Goals as goal

pub loop-p-init : goal.loop-p-init
loop-p-init g c = λ i h q lt. absurd (omega arith)

pub loop-p-preserved : goal.loop-p-preserved
loop-p-preserved g c = λ i h.
    column_fill g.W.Butterfly.lane_of i (λ q. at (column g.W.Butterfly.lane_of i c.args.input.now) (brev (suc g.row.K) q)) c.loop-p.output c.loop-p.p
    c.index-input-reversed_place.result (omega arith) (c.loop-p.invariant i h)
    (column_get g.W.Butterfly.lane_of i c.args.input.now _ _ (omega arith) c.index-input-reversed_place.is
    ∙ ap (at (column g.W.Butterfly.lane_of i c.args.input.now)) c.reversed_place.ensures.value)

pub returns : goal.returns
returns g c = λ i h. fill_by_all _ _ _ (pos 0) (length-map c.loop-p.output _ ∙ c.loop-p.auto.output ∙ c.requires.output_len)
    (λ q lt. c.loop-p.invariant i h q (omega arith))
