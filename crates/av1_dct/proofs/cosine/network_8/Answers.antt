use Rattle.std.proofs.Common.{refl}
use Rattle.av1_dct.proofs.Halves.{half-fits, network_words}
use Rattle.av1_dct.proofs.cosine.network_8.Goals as goal

pub join_halves-requires-clause-fit : goal.join_halves-requires-clause-fit
join_halves-requires-clause-fit g c = λ i h.
    half-fits g.W.Butterfly.lane_of i c.args.range 1 4 c.args.w.now c.network_4.new.w c.requires.range_in.1 (c.requires.fit i h) (c.network_4.ensures i h)

pub returns : goal.returns
returns g c = λ i h.
    network_words g.W.Butterfly.lane_of i c.args.range 1 4 c.args.w.now c.network_4.new.w c.join_halves.new.w refl (c.network_4.ensures i h)
    (c.join_halves.ensures i h)
