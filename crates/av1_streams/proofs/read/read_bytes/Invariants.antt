use Rattle.std.proofs.Common.{◌≡◌, ◌+◌, ◌-◌, ◌≤◌, take, vec_len}
use Rattle.std.specs.Io.KnownBytes.{Consumes}
use Rattle.av1_streams.specs.Streams.{AreBytes}
use Rattle.av1_streams.proofs.read.read_bytes.Given as goal

abbrev pub invariant-reading : goal.invariant-reading
invariant-reading g l = record {
  within : l.filled ≤ vec_len l.bytes;
  limit : vec_len l.bytes ≤ l.limit + 1;
  so_far : Consumes (g.R.Source.left l.initial.source) (g.R.Source.left l.source) (take l.filled l.bytes.items);
  fits : AreBytes (take l.filled l.bytes.items);
  uncounted : g.R.Source.faults l.source ≡ g.R.Source.faults l.initial.source;
}

abbrev pub decreases-reading : goal.decreases-reading
decreases-reading g l = l.limit + 1 - l.filled
