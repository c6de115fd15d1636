use Rattle.std.proofs.Common.{arith, ◌≡◌, ◌+◌, ◌*◌, ◌%◌, ◌∙◌, ap, refl, get_or, length, pos, ◌-ℤ◌}
use Rattle.std.proofs.lemmas.Int.{ints}
use Rattle.av1_dct.specs.Arithmetic.{at}
use Rattle.av1_dct.specs.Word.{column}
use Rattle.av1_lists.specs.Lists.{by_index}
use Rattle.av1_dct.proofs.Places.{column_get}
use Rattle.av1_itx.specs.Adst.{adst_out}
use Rattle.av1_itx.proofs.Fills.{IsBegun-end}
use Rattle.av1_itx.proofs.Order.{out-even, out-odd}
use Rattle.av1_itx.proofs.WrittenWords.{pair_more, words_begun}
use Rattle.av1_itx.proofs.adst.permute_out.Goals as goal

pub loop-p-init : goal.loop-p-init
loop-p-init g c = λ i h. words_begun _ _ (omega arith)

pub minus-requires : goal.minus-requires
minus-requires g c = λ i h.
    let lane = g.W.Word.lane_of in
    let b = get_or c.args.places.now (2 * c.loop-p.p + 1) 0 in
    let place = c.requires.table (2 * c.loop-p.p + 1) (omega arith) in
    let ez = c.splat-zero.ensures i h in
    let ey = column_get lane i c.args.v.now b c.index-v-t.result (omega (arith, place.1)) c.index-v-t.is in
    let fit = c.requires.fit i h b in
    omega (arith, ints, ez, ey, fit.low, fit.high)

pub loop-p-preserved : goal.loop-p-preserved
loop-p-preserved g c = λ i h.
    let lane = g.W.Word.lane_of in
    let v = column lane i c.args.v.now in
    let k = c.args.k in
    let p = c.loop-p.p in
    let even : 2 * p % 2 ≡ 0 = omega arith in
    let first = c.requires.table (2 * p) (omega arith) in
    let second = c.requires.table (2 * p + 1) (omega arith) in
    let a = get_or c.args.places.now (2 * p) 0 in
    let b = get_or c.args.places.now (2 * p + 1) 0 in
    let ez = c.splat-zero.ensures i h in
    let ex = column_get lane i c.args.v.now a c.index-v-s.result (omega (arith, first.1)) c.index-v-s.is in
    let ey = column_get lane i c.args.v.now b c.index-v-t.result (omega (arith, second.1)) c.index-v-t.is in
    pair_more lane i (length c.args.output.now) _ (column lane i c.args.output.now) c.loop-p.output (2 * p)
    (2 * p + 1) _ _ _ (c.loop-p.invariant i h) refl (omega arith) (omega arith)
    (ex ∙ ap (at v) first.0 ∙ out-even k v (2 * p) even)
    (c.minus.ensures i h ∙ ap (λ z. z -ℤ lane c.index-v-t.result i) ez ∙ ap (λ z. pos 0 -ℤ z) ey ∙ ap (λ q. pos 0 -ℤ at v q) second.0
    ∙ out-odd k v (2 * p + 1) (λ e. omega arith))

pub returns : goal.returns
returns g c = λ i h. IsBegun-end _ _ _ _ _ (omega arith) (c.loop-p.invariant i h)
    ∙ ap (λ n. by_index n (adst_out c.args.k (column g.W.Word.lane_of i c.args.v.now))) c.requires.output_len
