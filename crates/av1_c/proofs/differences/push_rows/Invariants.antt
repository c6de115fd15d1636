use Rattle.av1_c.proofs.differences.push_rows.Given as goal
use Rattle.std.proofs.Common.{◌≡◌, ◌++◌}
use Rattle.av1_c.specs.TraceCalls.{rows_in}

abbrev pub invariant-loop-r : goal.invariant-loop-r
invariant-loop-r l = l.rows.items ≡ l.initial.rows.items ++ rows_in l.stride l.area l.bytes l.r
