use Rattle.std.proofs.Common.{arith}
use Rattle.av1_intra.proofs.Derivatives.{past_180_few}
use Rattle.av1_intra.proofs.directional.derivative_past_180.Goals as goal

pub overflow_sub-p_angle : goal.overflow_sub-p_angle
overflow_sub-p_angle c = let h = past_180_few c.args.p_angle c.requires.angle c.requires.range in omega (arith, h.1)

pub returns-clause-small : goal.returns-clause-small
returns-clause-small c =
    let h = past_180_few c.args.p_angle c.requires.angle c.requires.range in omega (arith, h.0, c.dr_intra_derivative.ensures)

pub returns-clause-few : goal.returns-clause-few
returns-clause-few c = (past_180_few c.args.p_angle c.requires.angle c.requires.range).1
