use Rattle.std.proofs.Common.{refl}
use Rattle.av1_dct.proofs.Groups.{take-fits}
use Rattle.av1_dct.proofs.Halves.{half-fits, network_words}
use Rattle.av1_dct.proofs.cosine.network_32.Goals as goal

pub network_16-requires-clause-fit : goal.network_16-requires-clause-fit
network_16-requires-clause-fit g c = λ i h. take-fits g.W.Butterfly.lane_of i 16 c.args.w.now (c.requires.fit i h)

pub join_halves-requires-clause-fit : goal.join_halves-requires-clause-fit
join_halves-requires-clause-fit g c = λ i h.
    half-fits g.W.Butterfly.lane_of i c.args.range 3 16 c.args.w.now c.network_16.new.w c.requires.range_in.1 (c.requires.fit i h) (c.network_16.ensures i h)

pub returns : goal.returns
returns g c = λ i h.
    network_words g.W.Butterfly.lane_of i c.args.range 3 16 c.args.w.now c.network_16.new.w c.join_halves.new.w refl (c.network_16.ensures i h)
    (c.join_halves.ensures i h)
