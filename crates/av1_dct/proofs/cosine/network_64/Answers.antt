use Rattle.std.proofs.Common.{arith, refl, sym}
use Rattle.std.proofs.lemmas.List.{length-take-le}
use Rattle.av1_dct.proofs.Groups.{take-fits}
use Rattle.av1_dct.proofs.Halves.{half-fits, network_words}
use Rattle.av1_dct.proofs.cosine.network_64.Goals as goal

pub slice_bounds-network_32-end-2 : goal.slice_bounds-network_32-end-2
slice_bounds-network_32-end-2 g c = sym (length-take-le 32 c.args.w.now (omega arith))

pub network_32-requires-clause-len : goal.network_32-requires-clause-len
network_32-requires-clause-len g c = length-take-le 32 c.args.w.now (omega arith)

pub network_32-requires-clause-fit : goal.network_32-requires-clause-fit
network_32-requires-clause-fit g c = λ i h. take-fits g.W.Butterfly.lane_of i 32 c.args.w.now (c.requires.fit i h)

pub join_64-requires-clause-fit : goal.join_64-requires-clause-fit
join_64-requires-clause-fit g c = λ i h.
    half-fits g.W.Butterfly.lane_of i c.args.range 4 32 c.args.w.now c.network_32.new.w c.requires.range_in.1 (c.requires.fit i h) (c.network_32.ensures i h)

pub returns : goal.returns
returns g c = λ i h.
    network_words g.W.Butterfly.lane_of i c.args.range 4 32 c.args.w.now c.network_32.new.w c.join_64.new.w refl (c.network_32.ensures i h)
    (c.join_64.ensures i h)
