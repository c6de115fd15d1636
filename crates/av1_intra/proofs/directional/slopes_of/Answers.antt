use Rattle.std.proofs.Common.{◌-◌, subst, sym}
use Rattle.av1_intra.specs.Angles.{derivative, ArePair}
use Rattle.av1_intra.proofs.Derivatives.{between_pair}
use Rattle.av1_intra.proofs.directional.slopes_of.Goals as goal

pub returns-clause-pair : goal.returns-clause-pair
returns-clause-pair c =
    let p = c.args.p_angle in
    subst (ArePair _) (sym c.dr_intra_derivative-2.ensures)
    (subst (λ n. ArePair n (derivative (p - 90))) (sym c.dr_intra_derivative.ensures) (between_pair p c.requires.angle c.requires.low c.requires.high))
