use Rattle.std.proofs.Common.{◌∙◌}
use Rattle.std.proofs.lemmas.List.{length-map}
use Rattle.av1_dct.specs.Word.{column}
use Rattle.av1_dct.proofs.Fused.{four_turned, four_is}
use Rattle.av1_dct.proofs.cosine.network_4.Goals as goal

pub returns : goal.returns
returns g c = λ i h.
    let old = column g.W.Butterfly.lane_of i c.args.w.now in
    four_turned c.args.range old _ _ _ _ _ _ (c.rotate_outer-b.ensures.first i h) (c.rotate_outer-b.ensures.second i h)
    (c.rotate_outer-x.ensures.first i h) (c.rotate_outer-x.ensures.second i h) (c.put.ensures.value i h) (c.put-2.ensures.value i h)
    ∙ four_is c.args.range old (length-map c.args.w.now _ ∙ c.requires.len)
