use Rattle.std.proofs.Common.{arith, ◌≡◌, ◌+◌, ◌-◌, ◌*◌, ◌%◌, ◌∙◌, refl, length}
use Rattle.av1_dct.specs.Word.{column}
use Rattle.av1_dct.proofs.Places.{column_get}
use Rattle.av1_itx.proofs.Fills.{IsBegun-end}
use Rattle.av1_itx.proofs.Order.{in-even, in-odd}
use Rattle.av1_itx.proofs.WrittenWords.{pair_more, words_begun}
use Rattle.av1_itx.proofs.adst.permute_in.Goals as goal

pub loop-p-init : goal.loop-p-init
loop-p-init g c = λ i h. words_begun _ _ (omega arith)

pub loop-p-preserved : goal.loop-p-preserved
loop-p-preserved g c = λ i h.
    let lane = g.W.Word.lane_of in
    let x = c.args.input.now in
    let n = length c.args.v.now in
    let p = c.loop-p.p in
    let even : 2 * p % 2 ≡ 0 = omega arith in
    pair_more lane i n _ (column lane i c.args.v.now) c.loop-p.v (2 * p) (2 * p + 1) _ _ _ (c.loop-p.invariant i h) refl (omega arith) (omega arith)
    (column_get lane i x (n - 1 - 2 * p) c.index-input-n.result (omega arith) c.index-input-n.is ∙ in-even n (column lane i x) (2 * p) _ even refl)
    (column_get lane i x (2 * p) c.index-input-a.result (omega arith) c.index-input-a.is ∙ in-odd n (column lane i x) (2 * p + 1) (2 * p) refl even)

pub returns : goal.returns
returns g c = λ i h. IsBegun-end _ _ _ _ _ (omega arith) (c.loop-p.invariant i h)
