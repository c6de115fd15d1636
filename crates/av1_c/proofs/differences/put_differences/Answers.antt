use Rattle.std.proofs.Common.{arith}
use Rattle.av1_c.proofs.TraceCalls.{listed_more}
use Rattle.av1_c.proofs.differences.put_differences.Goals as goal

pub loop-i-preserved : goal.loop-i-preserved
loop-i-preserved c =
    let test = c.loop-i-test.true in
    listed_more c.args.list.now c.args.room.now c.loop-i.room c.loop-i.i c.difference_at.result c.difference_numbers.result
    (omega (arith, test, c.min-i-end.ensures)) (omega (arith, test, c.min-i-end.ensures)) c.loop-i.invariant c.difference_at.ensures
    c.difference_numbers.ensures
