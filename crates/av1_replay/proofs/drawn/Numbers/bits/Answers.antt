use Rattle.std.proofs.Common.{◌-◌, ◌/◌, ◌^◌, ◌<◌, arith, rules}
use Rattle.av1_replay.proofs.Powers.{upper_few}
use Rattle.av1_replay.proofs.drawn.Numbers.bits.Goals as goal

pub overflow_cast-result-2 : goal.overflow_cast-result-2
overflow_cast-result-2 c =
    let whole : c.next.result < 2 ^ 64 = omega (arith, c.next.type_inv) in
    let few : c.next.result / 2 ^ (64 - c.args.count) < 2 ^ 32 = upper_few c.next.result c.args.count whole c.requires.few in
    search rules
