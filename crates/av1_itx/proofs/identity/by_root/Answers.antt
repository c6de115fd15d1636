use Rattle.std.proofs.Common.{arith, ◌∙◌, ap, sym, subst, pos, ℤ, ◌+ℤ◌, ◌*ℤ◌, w32, FitsSigned}
use Rattle.av1_dct.proofs.Fits.{fits_wider}
use Rattle.av1_itx.proofs.Outputs.{round12-fits}
use Rattle.av1_itx.proofs.Small.{rest_of_root, root_sum_fits, round_is}
use Rattle.av1_itx.proofs.identity.by_root.Goals as goal

pub plus-requires : goal.plus-requires
plus-requires g c = λ i h.
    let z = g.W.Word.lane_of c.args.z i in
    subst (λ (y : ℤ). FitsSigned w32 (z +ℤ y)) (sym (c.turn.ensures i h ∙ round_is (pos 1697) z))
    (root_sum_fits z _ (fits_wider 20 21 z (omega arith) (c.requires i h)) (round12-fits (pos 1697 *ℤ z)))

pub returns : goal.returns
returns g c = λ i h.
    let z = g.W.Word.lane_of c.args.z i in
    c.plus.ensures i h ∙ ap (λ (y : ℤ). z +ℤ y) (c.turn.ensures i h ∙ round_is (pos 1697) z) ∙ rest_of_root z (c.requires i h)
