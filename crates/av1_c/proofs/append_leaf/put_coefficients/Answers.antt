use Rattle.std.proofs.Common.{take, ◌∙◌, arith}
use Rattle.av1_c.proofs.LeafBytes.{all_fit, all_triples}
use Rattle.av1_c.proofs.append_leaf.put_coefficients.Goals as goal

pub returns-clause-text : goal.returns-clause-text
returns-clause-text c =
    let l = c.loop-coefficient in
    l.invariant.so_far ∙ all_triples c.args.coefficients.now l.coefficient-index (take c.args.at c.args.slice.now) (omega arith)

pub returns-clause-fit : goal.returns-clause-fit
returns-clause-fit c =
    let l = c.loop-coefficient in
    all_fit c.args.coefficients.now (λ k d lt. l.invariant.fit k d (omega (arith, lt, c.loop-coefficient-test.false)))
