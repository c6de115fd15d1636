use Rattle.std.proofs.Common.{arith, rules, ◌≡◌, ◌+◌, ◌*◌, ◌∙◌, ap, refl, length, pos, neg_ℤ, ◌-ℤ◌, w32, FitsSigned}
use Rattle.std.proofs.lemmas.Int.{ints, to_z-of_z}
use Rattle.av1_dct.specs.Word.{column}
use Rattle.av1_dct.specs.Operations.{half_btf}
use Rattle.av1_itx.proofs.Fills.{IsBegun-end}
use Rattle.av1_itx.proofs.Turns.{weights_at, turned_by, pair_first, pair_second}
use Rattle.av1_itx.proofs.WrittenWords.{begun_read, pair_more, words_begun}
use Rattle.av1_itx.proofs.adst.turn_pairs.Goals as goal

pub loop-p-init : goal.loop-p-init
loop-p-init g c = λ i h. words_begun _ _ (omega arith)

pub loop-p-preserved : goal.loop-p-preserved
loop-p-preserved g c = λ i h.
    let lane = g.W.Word.lane_of in
    let old = column lane i c.args.v.now in
    let p = c.loop-p.p in
    let inv = c.loop-p.invariant i h in
    let w = weights_at c.args.weights.now p in
    let ex = begun_read lane i _ _ old (2 * p) c.loop-p.v (2 * p) c.index-v-a.result inv (omega arith) (omega arith) c.index-v-a.is in
    let ey = begun_read lane i _ _ old (2 * p) c.loop-p.v (2 * p + 1) c.index-v-b.result inv (omega arith) (omega arith) c.index-v-b.is in
    let f0 : FitsSigned w32 w.0 = search rules in
    let f1 : FitsSigned w32 w.1 = search rules in
    let small = c.requires.small p (omega arith) in
    let fn : FitsSigned w32 (pos 0 -ℤ w.0) = omega (arith, ints, small.low, small.high) in
    let d1 = simp to_z-of_z at c.turn.ensures i h in
    let d2 = simp to_z-of_z at c.turn-in-loop-p.ensures i h in
    let neg : pos 0 -ℤ w.0 ≡ neg_ℤ w.0 = omega (arith, ints) in
    let next : 2 * (p + 1) ≡ 2 * p + 2 = omega arith in
    let z1 = pair_first c.args.weights.now old p w.0 w.1 _ _ _ refl refl ex ey d1 in
    let z2 =
    pair_second c.args.weights.now old p w.0 w.1 (neg_ℤ w.0) _ _ _ refl refl refl ex ey (d2
    ∙ ap (λ n. half_btf w.1 (lane c.index-v-a.result i) n (lane c.index-v-b.result i)) neg) in
    pair_more lane i (length c.args.v.now) _ old c.loop-p.v (2 * p) (2 * p + 1) _ _ _ inv refl next (omega arith) z1 z2

pub returns : goal.returns
returns g c = λ i h. IsBegun-end _ (turned_by c.args.weights.now (column g.W.Word.lane_of i c.args.v.now)) _ _ _ (omega arith) (c.loop-p.invariant i h)
