use Rattle.std.proofs.Common.{◌∙◌, sym}
use Rattle.av1_plan.proofs.Faults.{leaf_valid, leaf_faulty}
use Rattle.av1_plan.proofs.check.check_leaves.Goals as goal

pub returns-in-Some-clause-err : goal.returns-in-Some-clause-err
returns-in-Some-clause-err c =
    let all = c.args.leaves.now in
    let faulty = rw c.leaves-leaf-items.ensures.items at (sym c.fault_of.ensures ∙ c.in-Some.is) in
    let within = rw c.leaves-leaf-items.ensures.items at c.loop-i-test.true in
    sym c.loop-i.invariant ∙ leaf_faulty c.args.header.now all.triples.items all.leaves.items c.loop-i.i _ c.in-Some.kind within faulty

pub loop-i-preserved : goal.loop-i-preserved
loop-i-preserved c =
    let all = c.args.leaves.now in
    let valid = rw c.leaves-leaf-items.ensures.items at (sym c.fault_of.ensures ∙ c.in_default.is) in
    let within = rw c.leaves-leaf-items.ensures.items at c.loop-i-test.true in
    sym (leaf_valid c.args.header.now all.triples.items all.leaves.items c.loop-i.i _ within valid) ∙ c.loop-i.invariant
