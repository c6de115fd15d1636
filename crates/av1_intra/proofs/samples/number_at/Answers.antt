use Rattle.std.proofs.Common.{ap, ◌∙◌, sym}
use Rattle.std.proofs.lemmas.List.{get_or-map}
use Rattle.av1_intra.proofs.samples.number_at.Goals as goal

pub returns-clause-value : goal.returns-clause-value
returns-clause-value g c =
    c.to_u32.ensures.value ∙ ap g.T.Pixel.num c.index-samples-k.is
    ∙ sym (get_or-map g.T.Pixel.num c.args.samples.now c.args.k c.index-samples-k.result 0 c.requires)
