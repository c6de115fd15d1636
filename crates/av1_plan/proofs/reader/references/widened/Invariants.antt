use Rattle.std.proofs.Common.{◌≡◌, ◌*◌, take, length}
use Rattle.av1_plan.proofs.reader.references.widened.Given as goal

abbrev pub invariant-loop-run : goal.invariant-loop-run
invariant-loop-run l = record {
  items : l.samples.items ≡ take (l.run * 64) l.bytes;
  len : length l.wide ≡ 64;
}
