use Rattle.std.proofs.Common.{arith, ap, ◌∙◌, refl, sym, subst, ℤ, List, ◌+◌}
use Rattle.std.proofs.lemmas.List.{length-take-le}
use Rattle.av1_dct.specs.Arithmetic.{AllFit}
use Rattle.av1_blocks.specs.Transforms.{coded_area}
use Rattle.av1_frame.proofs.Regions.{painted_same}
use Rattle.av1_itx.specs.Residue.{residue_by}
use Rattle.av1_itx.proofs.Passes.{residue-same}
use Rattle.av1_tile.specs.Reference.{added, block_residue, coefficients}
use Rattle.av1_dct.proofs.Fits.{fits_wider}
use Rattle.av1_tile.proofs.CoefficientLists.{count_within, front_is, loaded_fit, loaded_front, loaded_long, zeros_fit}
use Rattle.av1_tile.proofs.block.add_residue.Goals as goal

pub slice_bounds-load_coefficients-end : goal.slice_bounds-load_coefficients-end
slice_bounds-load_coefficients-end g c =
    let within = count_within _ _ c.args.block.now c.args.triples.now c.coefficients_up_to-count.ensures.least c.requires.triples in
    omega (arith, within.1)

pub slice_bounds-load_coefficients-end-2 : goal.slice_bounds-load_coefficients-end-2
slice_bounds-load_coefficients-end-2 g c =
    let within = count_within _ _ c.args.block.now c.args.triples.now c.coefficients_up_to-count.ensures.least c.requires.triples in
    sym (length-take-le _ c.args.coefficients.now (omega (arith, within.1)))

pub slice_bounds-inverse_transform_add_with-end : goal.slice_bounds-inverse_transform_add_with-end
slice_bounds-inverse_transform_add_with-end g c =
    let within = count_within _ _ c.args.block.now c.args.triples.now c.coefficients_up_to-count.ensures.least c.requires.triples in
    loaded_long _ c.args.coefficients.now _ (omega (arith, within.1)) c.load_coefficients.auto.coefficients

pub slice_bounds-inverse_transform_add_with-end-2 : goal.slice_bounds-inverse_transform_add_with-end-2
slice_bounds-inverse_transform_add_with-end-2 g c =
    let within = count_within _ _ c.args.block.now c.args.triples.now c.coefficients_up_to-count.ensures.least c.requires.triples in
    sym (length-take-le _ _ (loaded_long _ c.args.coefficients.now _ (omega (arith, within.1)) c.load_coefficients.auto.coefficients))

pub load_coefficients-requires-clause-places : goal.load_coefficients-requires-clause-places
load_coefficients-requires-clause-places g c = λ k d h.
    let within = count_within _ _ c.args.block.now c.args.triples.now c.coefficients_up_to-count.ensures.least c.requires.triples in
    let long = length-take-le c.coefficients_up_to-count.result c.args.coefficients.now (omega (arith, within.1)) in
    omega (arith, c.coefficients_up_to-count.ensures.reach k d h, long)

pub load_coefficients-requires-clause-values : goal.load_coefficients-requires-clause-values
load_coefficients-requires-clause-values g c = λ k d h.
    fits_wider _ _ _ (omega (arith, g.met.T.Pixel.coeff_bits, c.requires.depth)) (c.requires.triples k d h).value

pub inverse_transform_add_with-requires-clause-input_fits : goal.inverse_transform_add_with-requires-clause-input_fits
inverse_transform_add_with-requires-clause-input_fits g c = λ i h.
    let n = c.coefficients_up_to-count.result in
    let a = c.args in
    let within = count_within _ n a.block.now a.triples.now c.coefficients_up_to-count.ensures.least c.requires.triples in
    let same =
    front_is g.T.Coeff.Coefficient.val n n a.number a.triples.now c.load_coefficients.new.coefficients a.coefficients.now refl
    (omega (arith, within.1)) (omega arith) c.load_coefficients.ensures in
    subst (λ (xs : List ℤ). AllFit (a.bit_depth + 8) xs) (sym same)
    (loaded_fit _ a.number _ a.triples.now (zeros_fit _ _) (λ k d l. (c.requires.triples k d l).value)) i

pub returns-clause-painted : goal.returns-clause-painted
unfolding block_residue coefficients
returns-clause-painted g c =
    let n = c.coefficients_up_to-count.result in
    let a = c.args in
    let p = a.block.now in
    let within = count_within _ n p a.triples.now c.coefficients_up_to-count.ensures.least c.requires.triples in
    let same =
    front_is g.T.Coeff.Coefficient.val n n a.number a.triples.now c.load_coefficients.new.coefficients a.coefficients.now refl
    (omega (arith, within.1)) (omega arith) c.load_coefficients.ensures in
    painted_same _ _ _ _ _ _ c.inverse_transform_add_with.ensures.painted
    (λ r k v h l. ap (λ (z : ℤ). g.T.Pixel.pixel (added a.bit_depth (g.T.Pixel.num v) z))
    (ap (λ (xs : List ℤ). residue_by a.scratch.now.by_av1 p.area.tx_size p.tx_type a.bit_depth xs r k) same
    ∙ residue-same a.scratch.now.by_av1 p.area.tx_size p.tx_type a.bit_depth _ _
    (loaded_front a.number n (coded_area p.area.tx_size) a.triples.now within.0 c.coefficients_up_to-count.ensures.reach) r k))
