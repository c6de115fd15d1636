use Rattle.std.proofs.Common.{arith, ◌≡◌, ◌∙◌, ap, refl, pos, negsuc, ◌+ℤ◌, ◌-ℤ◌}
use Rattle.std.proofs.lemmas.Int.{ints}
use Rattle.av1_dct.specs.Arithmetic.{at}
use Rattle.av1_dct.specs.Word.{column}
use Rattle.av1_dct.proofs.Places.{column_get}
use Rattle.av1_itx.proofs.Adst4.{three, product_at, adst4_is}
use Rattle.av1_itx.proofs.WrittenWords.{column-set4}
use Rattle.av1_itx.proofs.adst.adst4_of.Goals as goal

pub minus-requires : goal.minus-requires
minus-requires g c = λ i h.
    let lane = g.W.Word.lane_of in
    let e0 = column_get lane i c.args.input.now 0 c.index-input-0.result (omega arith) c.index-input-0.is in
    let e2 = column_get lane i c.args.input.now 2 c.index-input-2.result (omega arith) c.index-input-2.is in
    let a0 = c.requires.fit i h 0 in
    let a2 = c.requires.fit i h 2 in
    omega (arith, ints, e0, e2, a0.low, a0.high, a2.low, a2.high)

pub plus-requires : goal.plus-requires
plus-requires g c = λ i h.
    let lane = g.W.Word.lane_of in
    let e0 = column_get lane i c.args.input.now 0 c.index-input-0.result (omega arith) c.index-input-0.is in
    let e2 = column_get lane i c.args.input.now 2 c.index-input-2.result (omega arith) c.index-input-2.is in
    let e3 = column_get lane i c.args.input.now 3 c.index-input-3.result (omega arith) c.index-input-3.is in
    let d = c.minus.ensures i h in
    let a0 = c.requires.fit i h 0 in
    let a2 = c.requires.fit i h 2 in
    let a3 = c.requires.fit i h 3 in
    omega (arith, ints, d, e0, e2, e3, a0.low, a0.high, a2.low, a2.high, a3.low, a3.high)

pub returns : goal.returns
returns g c = λ i h.
    let lane = g.W.Word.lane_of in
    let x = column lane i c.args.input.now in
    let e0 = column_get lane i c.args.input.now 0 c.index-input-0.result (omega arith) c.index-input-0.is in
    let e1 = column_get lane i c.args.input.now 1 c.index-input-1.result (omega arith) c.index-input-1.is in
    let e2 = column_get lane i c.args.input.now 2 c.index-input-2.result (omega arith) c.index-input-2.is in
    let e3 = column_get lane i c.args.input.now 3 c.index-input-3.result (omega arith) c.index-input-3.is in
    let ez : lane c.splat-zero.result i ≡ pos 0 = c.splat-zero.ensures i h in
    let p0 = product_at _ (pos 1321) _ _ _ _ (c.add_product.ensures i h) ez e0 in
    let p1 = product_at _ (pos 3803) _ _ _ _ (c.add_product-2.ensures i h) refl e2 in
    let p2 = product_at _ (pos 2482) _ _ _ _ (c.add_product-first.ensures i h) refl e3 in
    let q0 = product_at _ (pos 2482) _ _ _ _ (c.add_product-3.ensures i h) ez e0 in
    let q1 = product_at _ (negsuc 1320) _ _ _ _ (c.add_product-4.ensures i h) refl e2 in
    let q2 = product_at _ (negsuc 3802) _ _ _ _ (c.add_product-second.ensures i h) refl e3 in
    let r0 = product_at _ (pos 3344) _ _ _ _ (c.add_product-third.ensures i h) ez e1 in
    let inner : lane c.plus.result i ≡ at x 0 -ℤ at x 2 +ℤ at x 3 =
    c.plus.ensures i h
    ∙ ap (λ z. z +ℤ lane c.index-input-3.result i) (c.minus.ensures i h ∙ ap (λ z. z -ℤ lane c.index-input-2.result i) e0 ∙ ap (λ z. at x 0 -ℤ z) e2)
    ∙ ap (λ z. at x 0 -ℤ at x 2 +ℤ z) e3 in
    let s2 = product_at _ (pos 3344) _ _ _ _ (c.add_product-7.ensures i h) ez inner in
    column-set4 lane i c.args.output.now _ _ _ _ c.requires.output_len
    ∙ adst4_is x (lane c.add_product-first.result i) (lane c.add_product-second.result i) (lane c.add_product-third.result i) (lane c.add_product-5.result i)
    (lane c.add_product-6.result i) (lane c.add_product-7.result i) (lane c.add_product-8.result i) (lane c.add_product-9.result i) _ _ _ _
    (three (pos 1321) (at x 0) (pos 3803) (at x 2) (pos 2482) (at x 3) _ _ _ p0 p1 p2)
    (three (pos 2482) (at x 0) (negsuc 1320) (at x 2) (negsuc 3802) (at x 3) _ _ _ q0 q1 q2)
    r0 (c.add_product-5.ensures i h) (c.round12.ensures i h) (c.add_product-6.ensures i h) (c.round12-2.ensures i h) s2 (c.round12-3.ensures i h)
    (c.add_product-8.ensures i h) (c.add_product-9.ensures i h) (c.round12-4.ensures i h)
