use Rattle.std.proofs.Common.{arith, ◌+◌, ◌*ℤ◌, ◌∙◌, ap, sym, cond, pos}
use Rattle.std.specs.Int.{int_shr}
use Rattle.av1_dct.specs.Arithmetic.{clamp_value}
use Rattle.av1_dct.proofs.Fits.{fits_wider}
use Rattle.av1_frame.specs.Arithmetic.{round_shift}
use Rattle.av1_itx.proofs.Small.{half_root}
use Rattle.av1_itx.proofs.row_pass.scaled.Goals as goal

pub returns-then-scaling : goal.returns-then-scaling
returns-then-scaling g c = λ i h.
    let z = g.W.Word.lane_of c.args.z i in
    let n = c.args.bd + 8 in
    c.clamp_to.ensures i h
    ∙ ap (λ v. clamp_value v n) (c.turn.ensures i h ∙ half_root z (fits_wider n 20 z (omega arith) (c.requires.fits i h)))
    ∙ ap (λ b. clamp_value (cond b (round_shift (pos 2896 *ℤ z) 12) (cond c.args.scaling.lossless (int_shr z 2) z)) n) (sym c.if-scaling.true)
