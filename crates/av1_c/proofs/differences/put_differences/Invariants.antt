use Rattle.std.proofs.Common.{◌≡◌, ◌++◌, drop, map, take}
use Rattle.av1_c.specs.TraceCalls.{difference_numbers}
use Rattle.av1_c.proofs.differences.put_differences.Given as goal

abbrev pub invariant-loop-i : goal.invariant-loop-i
invariant-loop-i l = l.room ≡ take l.i (map difference_numbers l.list) ++ drop l.i l.initial.room
