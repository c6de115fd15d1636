use Rattle.std.proofs.Common.{ap, ◌∙◌}
use Rattle.av1_dct.specs.Arithmetic.{clamp_value}
use Rattle.av1_dct.proofs.Sums.{difference_fits}
use Rattle.av1_dct.proofs.butterfly.AnyButterfly.own_difference.Goals as goal

pub minus-requires : goal.minus-requires
minus-requires g c = λ i h. difference_fits _ _ (c.requires.first i h) (c.requires.second i h)

pub returns : goal.returns
returns g c = λ i h. c.clamp_to.ensures i h ∙ ap (λ z. clamp_value z c.args.range) (c.minus.ensures i h)
