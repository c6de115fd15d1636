use Rattle.std.proofs.Common.{arith, ◌+◌, ◌/◌, ◌∙◌, ℤ, ap, sym, subst, length}
use Rattle.std.proofs.lemmas.List.{length-map}
use Rattle.av1_dct.specs.Arithmetic.{clamp_value, FitsBits}
use Rattle.av1_dct.specs.Word.{column}
use Rattle.av1_lists.specs.Lists.{by_index}
use Rattle.av1_dct.proofs.Places.{column_get}
use Rattle.av1_dct.proofs.Sums.{sum_fits, difference_fits}
use Rattle.av1_itx.specs.Adst.{adst_sum}
use Rattle.av1_itx.proofs.Fills.{IsHalved-start, IsHalved-end}
use Rattle.av1_itx.proofs.Blocks.{sum_first, sum_second}
use Rattle.av1_itx.proofs.WrittenWords.{halves_more}
use Rattle.av1_itx.proofs.adst.sum_halves.Goals as goal

pub loop-p-init : goal.loop-p-init
loop-p-init g c = λ i h. IsHalved-start _ _ _ (length-map c.args.v.now _ ∙ sym c.requires.even)

pub plus-requires : goal.plus-requires
plus-requires g c = λ i h.
    let lane = g.W.Word.lane_of in
    let inv = c.loop-p.invariant i h in
    let p = c.loop-p.p in
    let q = p + length c.args.v.now / 2 in
    let P = λ (z : ℤ). FitsBits 20 z in
    let ex = column_get lane i c.loop-p.v p c.index-v-p.result (omega arith) c.index-v-p.is ∙ inv.mid p (omega arith) (omega arith) in
    let ey = column_get lane i c.loop-p.v q c.index-v-q.result (omega arith) c.index-v-q.is ∙ inv.rest q (omega arith) in
    sum_fits _ _ (subst P (sym ex) (c.requires.fit i h p)) (subst P (sym ey) (c.requires.fit i h q))

pub minus-requires : goal.minus-requires
minus-requires g c = λ i h.
    let lane = g.W.Word.lane_of in
    let inv = c.loop-p.invariant i h in
    let p = c.loop-p.p in
    let q = p + length c.args.v.now / 2 in
    let P = λ (z : ℤ). FitsBits 20 z in
    let ex = column_get lane i c.loop-p.v p c.index-v-p.result (omega arith) c.index-v-p.is ∙ inv.mid p (omega arith) (omega arith) in
    let ey = column_get lane i c.loop-p.v q c.index-v-q.result (omega arith) c.index-v-q.is ∙ inv.rest q (omega arith) in
    difference_fits _ _ (subst P (sym ex) (c.requires.fit i h p)) (subst P (sym ey) (c.requires.fit i h q))

pub loop-p-preserved : goal.loop-p-preserved
loop-p-preserved g c = λ i h.
    let lane = g.W.Word.lane_of in
    let inv = c.loop-p.invariant i h in
    let old = column lane i c.args.v.now in
    let s = length c.args.v.now / 2 in
    let p = c.loop-p.p in
    let q = p + s in
    let ex = column_get lane i c.loop-p.v p c.index-v-p.result (omega arith) c.index-v-p.is ∙ inv.mid p (omega arith) (omega arith) in
    let ey = column_get lane i c.loop-p.v q c.index-v-q.result (omega arith) c.index-v-q.is ∙ inv.rest q (omega arith) in
    halves_more lane i s _ old c.loop-p.v p q _ _ inv (omega arith) (omega arith)
    (sum_first c.args.range s old p _ _ _ (omega arith) ex ey (c.clamp_to.ensures i h ∙ ap (λ z. clamp_value z c.args.range) (c.plus.ensures i h)))
    (sum_second c.args.range s old p _ _ _ (omega arith) ex ey (c.clamp_to-in-loop-p.ensures i h ∙ ap (λ z. clamp_value z c.args.range) (c.minus.ensures i h)))

pub returns : goal.returns
returns g c = λ i h. IsHalved-end _ _ _ _ _ (omega arith) (c.loop-p.invariant i h)
    ∙ ap (λ n. by_index n (adst_sum c.args.range (length c.args.v.now / 2) (column g.W.Word.lane_of i c.args.v.now))) c.requires.even
