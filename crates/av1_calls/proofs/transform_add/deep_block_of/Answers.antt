use Rattle.std.proofs.Common.{◌≡◌, true, false, arith, tests, subst, sym, ℕ, ◌<◌}
use Rattle.av1_calls.proofs.Blocks.{too_large}
use Rattle.av1_calls.proofs.transform_add.deep_block_of.Goals as goal

pub returns-else-all_given_fit-clause-fault : goal.returns-else-all_given_fit-clause-fault
returns-else-all_given_fit-clause-fault c =
    let failed : c.all_given_fit.result ≡ false = grind (arith, tests, c.if-all_given_fit.false) in
    let found = c.in_ok-block.ensures in
    let block = c.in_ok-block.block in
    too_large c.args.bit_depth c.args.tx_size c.args.tx_type c.args.at.stride c.args.at.x c.args.at.y c.args.coefficients.now c.args.samples block.size
    block.kind c.all_given_fit.result found.found found.depth
    (λ all. c.all_given_fit.ensures.is_true (λ i h. all i (subst (λ (n : ℕ). i < n) c.coded_area.ensures.value h))) failed

pub returns-then-all_given_fit-clause-fit : goal.returns-then-all_given_fit-clause-fit
returns-then-all_given_fit-clause-fit c =
    λ i h. c.all_given_fit.ensures.true_is (let yes : c.all_given_fit.result ≡ true = grind (arith, tests, c.if-all_given_fit.true)
    in yes) i (subst (λ (n : ℕ). i < n) (sym c.coded_area.ensures.value) h)
