use Rattle.std.proofs.Common.{◌∙◌, arith}
use Rattle.std.proofs.lemmas.List.{length-map}
use Rattle.av1_dct.specs.Word.{column}
use Rattle.av1_dct.proofs.Fused.{ended_all, ended_start}
use Rattle.av1_dct.proofs.Turned.{quarter_few}
use Rattle.av1_dct.proofs.steps.end.Goals as goal

pub returns : goal.returns
returns g c = λ i h.
    let u = column g.W.Butterfly.lane_of i c.args.w.now in
    let start = ended_start c.args.range g.row.K u (length-map c.args.w.now _ ∙ c.requires.len) in
    (c.end_at-8.ensures.value i u h
    (c.end_at-7.ensures.value i u h
    (c.end_at-6.ensures.value i u h
    (c.end_at-5.ensures.value i u h
    (c.end_at-4.ensures.value i u h (c.end_at-3.ensures.value i u h (c.end_at-2.ensures.value i u h (c.end_at.ensures.value i u h start))))))))
    ∙ ended_all c.args.range g.row.K 8 u (omega arith) (omega arith) (quarter_few g.row.K (omega arith) (omega arith)) (omega arith)
