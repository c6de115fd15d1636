use Rattle.std.proofs.Common.{◌-◌, arith}
use Rattle.std.proofs.lemmas.Bool.Decides.{nat_tests}
use Rattle.av1_calls.proofs.samples.are_any_below.Goals as goal

pub returns-then-width-lt8-clause-is_true : goal.returns-then-width-lt8-clause-is_true
returns-then-width-lt8-clause-is_true c = λ all.
    let few = c.greatest_of.ensures.reached (c.args.bound - 1) (λ r q h k. let one = all r q h k in omega (arith, one)) in
    let some = c.requires.some in
    grind (arith, nat_tests, few, some)
