use Rattle.std.proofs.Common.{arith}
use Rattle.av1_view.proofs.Joined.{joined_fits, joined_more, joined_none}
use Rattle.av1_view.proofs.packed.joined.Goals as goal

pub loop-i-init : goal.loop-i-init
loop-i-init c = joined_none c.args.bits c.args.group.now

pub overflow_add-word : goal.overflow_add-word
overflow_add-word c =
    let fits =
    joined_fits c.args.bits c.loop-i.word c.from.result c.loop-i.i c.args.group.now c.requires.few c.requires.short c.requires.each c.loop-i-test.true
    c.loop-i.invariant c.from.ensures in
    omega (arith, fits)

pub loop-i-preserved : goal.loop-i-preserved
loop-i-preserved c =
    joined_more c.args.bits c.loop-i.word c.from.result c.loop-i.i c.args.group.now c.requires.few c.requires.short c.requires.each c.loop-i-test.true
    c.loop-i.invariant c.from.ensures
