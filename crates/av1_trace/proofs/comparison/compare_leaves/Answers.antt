use Rattle.std.proofs.Common.{◌≤◌, length, ap, arith}
use Rattle.av1_plan.specs.Values.{stored_leaves}
use Rattle.av1_trace.proofs.Comparing.{last_leaf, next_leaf}
use Rattle.av1_trace.proofs.comparison.compare_leaves.Goals as goal

pub loop-n-preserved : goal.loop-n-preserved
loop-n-preserved g c =
    let within = rw c.leaves-leaf-items.ensures.items at c.loop-n-test.true in
    let more = rw c.leaves-leaf-items.ensures.items at c.in_ok-add_leaf.ensures in
    next_leaf c.args.plan.now c.args.planes.now c.loop-n.n _ c.loop-n.list.items c.add_leaf.new.list.items within c.loop-n.invariant more

pub returns : goal.returns
returns g c =
    let end : length (stored_leaves c.args.plan.now) ≤ c.loop-n.n = omega (arith, c.loop-n-test.false, ap length c.leaves-leaf-items.ensures.items) in
    last_leaf c.args.plan.now c.args.planes.now c.loop-n.n c.loop-n.list.items end c.loop-n.invariant
