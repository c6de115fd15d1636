use Rattle.std.proofs.Common.{arith, ◌≡◌, ◌∙◌, ap, pos, ◌+ℤ◌}
use Rattle.std.proofs.lemmas.Int.{ints}
use Rattle.av1_itx.specs.Identity.{scaled, scaled_with}
use Rattle.av1_itx.proofs.Small.{round_is, double_is, twice_is}
use Rattle.av1_itx.proofs.identity.scaled_of.Goals as goal

pub plus-double-requires : goal.plus-double-requires
plus-double-requires g c = λ i h. let f = c.requires.fits i h in omega (arith, ints, f.low, f.high)

pub plus-requires : goal.plus-requires
plus-requires g c = λ i h. let f = c.requires.fits i h in let d = c.plus-double.ensures i h in omega (arith, ints, d, f.low, f.high)

pub returns-then-k-eq1 : goal.returns-then-k-eq1
unfolding scaled_with
returns-then-k-eq1 g c = λ i h.
    let e : 1 ≡ c.args.k = omega arith in
    c.turn.ensures i h ∙ round_is (pos 5793) (g.W.Word.lane_of c.args.z i) ∙ ap (λ n. scaled n (g.W.Word.lane_of c.args.z i)) e

pub returns-then-k-eq3 : goal.returns-then-k-eq3
unfolding scaled_with
returns-then-k-eq3 g c = λ i h.
    let e : 3 ≡ c.args.k = omega arith in
    c.turn-then-k-eq3.ensures i h ∙ round_is (pos 11586) (g.W.Word.lane_of c.args.z i) ∙ ap (λ n. scaled n (g.W.Word.lane_of c.args.z i)) e

pub returns-then-k-eq2 : goal.returns-then-k-eq2
unfolding scaled_with
returns-then-k-eq2 g c = λ i h.
    let e : 2 ≡ c.args.k = omega arith in
    c.plus-double.ensures i h ∙ double_is (g.W.Word.lane_of c.args.z i) ∙ ap (λ n. scaled n (g.W.Word.lane_of c.args.z i)) e

pub returns : goal.returns
unfolding scaled_with
returns g c = λ i h.
    let e : 4 ≡ c.args.k = omega arith in
    let z = g.W.Word.lane_of c.args.z i in
    let d = c.plus-double.ensures i h in
    c.plus.ensures i h ∙ ap (λ y. y +ℤ y) d ∙ twice_is z ∙ ap (λ n. scaled n z) e
