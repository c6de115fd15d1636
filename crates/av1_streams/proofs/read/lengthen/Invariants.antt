use Rattle.std.proofs.Common.{◌≡◌, ◌+◌, ◌*◌, take, vec_len}
use Rattle.av1_streams.proofs.read.lengthen.Given as goal

abbrev pub invariant-loop-run : goal.invariant-loop-run
invariant-loop-run l = record {
  len : vec_len l.bytes ≡ vec_len l.initial.bytes + l.run * 1024;
  front : take (vec_len l.initial.bytes) l.bytes.items ≡ l.initial.bytes.items;
}
