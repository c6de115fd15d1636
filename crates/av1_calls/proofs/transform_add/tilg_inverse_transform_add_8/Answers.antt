use Rattle.std.proofs.Common.{ℕ, ℤ, List, All, true, arith, pos, ◌+ℤ◌, ◌∙◌, ap, subst, sym}
use Rattle.std.proofs.lemmas.List.{get_or_default, map-id}
use Rattle.av1_dct.specs.Arithmetic.{FitsBits}
use Rattle.av1_dct.proofs.Fits.{fits_wider}
use Rattle.av1_frame.specs.Arithmetic.{clip}
use Rattle.av1_frame.specs.Samples.{paint}
use Rattle.av1_frame.proofs.Paint.{paint_same}
use Rattle.av1_itx.specs.Residue.{residue}
use Rattle.av1_itx.proofs.NoWrap.{shallow_same}
use Rattle.av1_calls.proofs.Blocks.{adds_residue}
use Rattle.av1_calls.proofs.transform_add.tilg_inverse_transform_add_8.Goals as goal

pub returns-in-Ok : goal.returns-in-Ok
returns-in-Ok c =
    let a = c.args in
    let block = c.in-Ok.block in
    let cs = a.coefficients.now in
    let put_on : List ℤ → ℕ → ℕ → ℕ → ℕ = λ xs r q v. clip 8 (pos v +ℤ residue block.size block.kind 8 xs r q) in
    let few : All (FitsBits 17) cs = λ i d lt.
    subst (FitsBits 17) (get_or_default cs i (pos 0) d lt) (fits_wider 16 17 _ (omega arith) (c.have_16_bits.ensures i lt)) in
    let added = c.inverse_transform_add_in.ensures.painted
    ∙ ap (λ xs. paint a.stride block.area (put_on xs) a.samples.now) (map-id cs)
    ∙ ap (λ place. paint a.stride place (put_on cs) a.samples.now) c.in-Ok.ensures.area
    ∙ paint_same a.stride _ _ _ a.samples.now (λ r q v _ _. ap (λ z. clip 8 (pos v +ℤ z))
    (sym (shallow_same true block.size block.kind 8 cs r q (omega arith) (λ e. (c.in-Ok.ensures.found.runs.lossless e, few))))) in
    adds_residue true _ 8 a.tx_size a.tx_type a.stride a.x a.y cs a.samples.now _ block.size block.kind c.in-Ok.ensures.found tt added
