use Rattle.std.proofs.Common.{◌≡◌, ◌*◌, replicate, vec_len}
use Rattle.av1_frame.proofs.rows.repeated.Given as goal

abbrev pub invariant-loop-run : goal.invariant-loop-run
invariant-loop-run g l = record {
  items : l.values.items ≡ replicate (l.run * 512) l.value;
  len : vec_len l.values ≡ l.run * 512;
}
