use Rattle.std.proofs.Common.{◌≤◌, arith}
use Rattle.av1_intra.specs.Sides.{distance}
use Rattle.av1_intra.proofs.Nearest.{nearest_above, nearest_corner, nearest_left}
use Rattle.av1_intra.proofs.paeth.nearest_number.Goals as goal

pub returns-then-left_off-min-clause-value : goal.returns-then-left_off-min-clause-value
returns-then-left_off-min-clause-value c =
    let a = c.args.above in
    let l = c.args.left in
    let k = c.args.corner in
    let o = c.corner_distance-corner_off in
    let p : distance a k ≤ distance l k = omega (arith, c.abs_diff-left_off.ensures, c.abs_diff-above_off.ensures, c.min.ensures, c.if-left_off-min.true) in
    let q : distance a k ≤ o.result = omega (arith, c.abs_diff-left_off.ensures, c.min.ensures, c.if-left_off-min.true) in
    nearest_left a l k o.result o.ensures (omega arith) (omega arith) (omega arith) p q

pub returns-then-above_off-corner_off-clause-value : goal.returns-then-above_off-corner_off-clause-value
returns-then-above_off-corner_off-clause-value c =
    let o = c.corner_distance-corner_off in
    nearest_above c.args.above c.args.left c.args.corner o.result o.ensures (omega arith) (omega arith) (omega arith)
    (λ p q. omega (arith, p, q, c.abs_diff-left_off.ensures, c.abs_diff-above_off.ensures, c.min.ensures, c.if-left_off-min.false))
    (omega (arith, c.abs_diff-above_off.ensures, c.if-above_off-corner_off.true))

pub returns-else-above_off-corner_off-clause-value : goal.returns-else-above_off-corner_off-clause-value
returns-else-above_off-corner_off-clause-value c =
    let o = c.corner_distance-corner_off in
    nearest_corner c.args.above c.args.left c.args.corner o.result o.ensures (omega arith) (omega arith) (omega arith)
    (λ p q. omega (arith, p, q, c.abs_diff-left_off.ensures, c.abs_diff-above_off.ensures, c.min.ensures, c.if-left_off-min.false))
    (omega (arith, c.abs_diff-above_off.ensures, c.if-above_off-corner_off.false))
