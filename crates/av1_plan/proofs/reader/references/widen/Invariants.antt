use Rattle.std.proofs.Common.{◌≡◌, take, length}
use Rattle.av1_plan.proofs.reader.references.widen.Given as goal

abbrev pub invariant-loop-i : goal.invariant-loop-i
invariant-loop-i l = record {
  front : take l.i l.wide ≡ take l.i l.bytes;
  len : length l.wide ≡ length l.initial.wide;
}
