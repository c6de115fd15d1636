use Rattle.std.proofs.Common.{ℕ, ℤ, List, pos, ◌+◌, ◌<◌, ◌+ℤ◌, ◌∙◌, ap, subst, sym}
use Rattle.std.proofs.lemmas.List.{map-id}
use Rattle.av1_blocks.specs.Transforms.{coded_area}
use Rattle.av1_dct.specs.Arithmetic.{at, FitsBits}
use Rattle.av1_frame.specs.Arithmetic.{clip}
use Rattle.av1_frame.specs.Samples.{paint}
use Rattle.av1_itx.specs.Residue.{residue_by}
use Rattle.av1_calls.proofs.transform_add.add_deep.Goals as goal

pub inverse_transform_add_in-requires-clause-input_fits : goal.inverse_transform_add_in-requires-clause-input_fits
inverse_transform_add_in-requires-clause-input_fits c =
    let a = c.args in
    subst (λ (xs : List ℤ). (i : ℕ) → i < coded_area a.block.size → FitsBits (a.bit_depth + 8) (at xs i)) (sym (map-id a.coefficients.now)) c.requires.fit

pub returns : goal.returns
returns c =
    let a = c.args in
    let put_on : List ℤ → ℕ → ℕ → ℕ → ℕ = λ xs r q v. clip a.bit_depth (pos v +ℤ residue_by a.by_av1 a.block.size a.block.kind a.bit_depth xs r q) in
    c.inverse_transform_add_in.ensures.painted ∙ ap (λ xs. paint a.stride a.block.area (put_on xs) a.samples.now) (map-id a.coefficients.now)
