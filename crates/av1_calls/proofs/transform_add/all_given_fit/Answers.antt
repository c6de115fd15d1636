use Rattle.std.proofs.Common.{arith}
use Rattle.av1_calls.proofs.Limits.{given_fit}
use Rattle.av1_calls.proofs.transform_add.all_given_fit.Goals as goal

pub returns-clause-true_is : goal.returns-clause-true_is
returns-clause-true_is c =
    λ yes. given_fit c.args.bits c.args.count c.given_count-given.result c.args.coefficients.now c.given_count-given.ensures.all (c.all_fit.ensures.true_is yes)

pub returns-clause-is_true : goal.returns-clause-is_true
returns-clause-is_true c = λ all. c.all_fit.ensures.is_true (λ i h. all i (omega (arith, h, c.given_count-given.ensures.most)))
