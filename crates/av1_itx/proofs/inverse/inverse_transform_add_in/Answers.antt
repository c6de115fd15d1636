use Rattle.av1_itx.proofs.Handed.{coefficients_are}
use Rattle.av1_itx.proofs.inverse.inverse_transform_add_in.Goals as goal

pub add_over-requires-clause-block : goal.add_over-requires-clause-block
add_over-requires-clause-block g c =
    coefficients_are g.T.Coeff.Coefficient.val _ c.args.input.now c.requires.depths c.requires.valid c.requires.lossless c.requires.input_fits
