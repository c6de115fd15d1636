use Rattle.av1_inter.proofs.Widened.{widened_fits, widened_is}
use Rattle.av1_inter.proofs.copies.widen.Goals as goal

pub overflow_cast-result : goal.overflow_cast-result
overflow_cast-result g c =
    widened_fits c.args.bit_depth (g.T.Pixel.num c.args.sample) c.requires.depths c.requires.within c.to_i32.result c.prep_bias.result c.from.result
    c.intermediate_bits-bits.result c.to_i32.ensures.value c.to_i32.ensures.fits_16_bits c.intermediate_bits-bits.ensures.value c.prep_bias.ensures
    c.from.ensures

pub returns : goal.returns
returns g c =
    widened_is c.args.bit_depth (g.T.Pixel.num c.args.sample) c.requires.depths c.requires.within c.to_i32.result c.prep_bias.result c.from.result
    c.intermediate_bits-bits.result c.to_i32.ensures.value c.to_i32.ensures.fits_16_bits c.intermediate_bits-bits.ensures.value c.prep_bias.ensures
    c.from.ensures
