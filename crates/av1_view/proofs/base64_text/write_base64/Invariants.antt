use Rattle.std.proofs.Common.{◌≡◌, ◌-◌, ◌%◌, ◌<◌, ◌≤◌, length, take}
use Rattle.std.specs.Io.KnownBytes.{Appends}
use Rattle.av1_view.specs.Base64.{base64_text}
use Rattle.av1_view.proofs.base64_text.write_base64.Given as goal

abbrev pub invariant-pieces : goal.invariant-pieces
invariant-pieces g l = record {
  within : l.at ≤ length l.bytes;
  groups : l.at < length l.bytes → l.at % 3 ≡ 0;
  so_far : Appends (g.W.Sink.taken l.initial.sink) (g.W.Sink.taken l.sink) (base64_text (take l.at l.bytes));
  uncounted : g.W.Sink.faults l.sink ≡ g.W.Sink.faults l.initial.sink;
}

abbrev pub decreases-pieces : goal.decreases-pieces
decreases-pieces g l = length l.bytes - l.at
