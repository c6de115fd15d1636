use Rattle.std.proofs.Common.{arith, ◌∙◌, ap, sym, subst, pos, ℤ, ◌+ℤ◌, ◌*ℤ◌, w32, FitsSigned}
use Rattle.std.proofs.lemmas.Int.{ints}
use Rattle.av1_dct.specs.Arithmetic.{FitsBits}
use Rattle.av1_itx.proofs.Outputs.{round12-fits}
use Rattle.av1_itx.proofs.Small.{rest_of_two_roots, root_sum_fits, round_is}
use Rattle.av1_itx.proofs.identity.by_two_roots.Goals as goal

pub plus-double-requires : goal.plus-double-requires
plus-double-requires g c = λ i h. let f = c.requires i h in omega (arith, ints, f.low, f.high)

pub plus-requires : goal.plus-requires
plus-requires g c = λ i h.
    let z = g.W.Word.lane_of c.args.z i in
    let f = c.requires i h in
    let twice : FitsBits 21 (z +ℤ z) = record { low = omega (arith, ints, f.low); high = omega (arith, ints, f.high) } in
    let d = c.plus-double.ensures i h in
    subst (λ (y : ℤ). FitsSigned w32 (g.W.Word.lane_of c.plus-double.result i +ℤ y)) (sym (c.turn.ensures i h ∙ round_is (pos 3394) z))
    (root_sum_fits _ _ (subst (λ (y : ℤ). FitsBits 21 y) (sym d) twice) (round12-fits (pos 3394 *ℤ z)))

pub returns : goal.returns
returns g c = λ i h.
    let z = g.W.Word.lane_of c.args.z i in
    let d = c.plus-double.ensures i h in
    c.plus.ensures i h ∙ ap (λ (y : ℤ). y +ℤ g.W.Word.lane_of c.turn.result i) d
    ∙ ap (λ (y : ℤ). z +ℤ z +ℤ y) (c.turn.ensures i h ∙ round_is (pos 3394) z) ∙ rest_of_two_roots z (c.requires i h)
