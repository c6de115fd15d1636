use Rattle.std.proofs.Common.{arith}
use Rattle.std.proofs.lemmas.Int.{ints, to_z-of_z}
use Rattle.av1_dct.proofs.Fits.{turns-fit}
use Rattle.av1_dct.proofs.Places.{column_get}
use Rattle.av1_dct.proofs.steps.rotate_inner.Goals as goal

pub returns-clause-first : goal.returns-clause-first
returns-clause-first g c = λ i h.
    let x = column_get g.W.Butterfly.lane_of i c.args.v.now c.args.p c.index-v-p.result c.requires.p_in c.index-v-p.is in
    let y = column_get g.W.Butterfly.lane_of i c.args.v.now c.args.q c.index-v-q.result c.requires.q_in c.index-v-q.is in
    let t = c.rotate.ensures i h in
    grind (arith, ints, to_z-of_z)

pub returns-clause-second : goal.returns-clause-second
returns-clause-second g c = λ i h.
    let x = column_get g.W.Butterfly.lane_of i c.args.v.now c.args.p c.index-v-p.result c.requires.p_in c.index-v-p.is in
    let y = column_get g.W.Butterfly.lane_of i c.args.v.now c.args.q c.index-v-q.result c.requires.q_in c.index-v-q.is in
    let t = c.rotate-2.ensures i h in
    grind (arith, ints, to_z-of_z)

pub returns-clause-first_fits : goal.returns-clause-first_fits
returns-clause-first_fits g c = turns-fit _ _ _ _ c.rotate.ensures

pub returns-clause-second_fits : goal.returns-clause-second_fits
returns-clause-second_fits g c = turns-fit _ _ _ _ c.rotate-2.ensures
