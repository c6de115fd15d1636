use Rattle.std.proofs.Common.{◌≡◌, ◌-◌}
use Rattle.av1_avail.specs.Bits.{reaches_lower_right}
use Rattle.av1_avail.proofs.bits.reaches_lower_right.Given as goal

abbrev pub invariant-loop-k : goal.invariant-loop-k
invariant-loop-k l = reaches_lower_right (4 - l.shift) l.x l.y ≡ reaches_lower_right (4 - l.k) l.x l.y
