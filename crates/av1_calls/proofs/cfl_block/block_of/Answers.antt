use Rattle.std.proofs.Common.{◌≡◌, true, None, arith, rules, tests}
use Rattle.av1_calls.proofs.cfl_block.block_of.Goals as goal

pub returns-in_default-clause-fault : goal.returns-in_default-clause-fault
returns-in_default-clause-fault c =
    let yes : c.is_sampling.result ≡ true = grind (arith, tests, c.if-not-is_sampling.false) in
    let none : c.sizes_of.result ≡ None = search rules in
    (c.is_sampling.ensures.true_is yes, c.sizes_of.ensures.none none)
