use Rattle.std.proofs.Common.{◌≡◌, ◌-◌, ◌≤◌, length, take, map}
use Rattle.std.specs.List.{flat_map}
use Rattle.std.specs.Io.KnownBytes.{Appends}
use Rattle.av1_tile.specs.Output.{sample_bytes}
use Rattle.av1_recon.proofs.planes.write_row.Given as goal

abbrev pub invariant-pieces : goal.invariant-pieces
invariant-pieces g l = record {
  within : l.at ≤ length l.row;
  so_far : Appends (g.W.Sink.taken l.initial.sink) (g.W.Sink.taken l.sink) (flat_map (sample_bytes l.depth) (map g.T.Pixel.num (take l.at l.row)));
  uncounted : g.W.Sink.faults l.sink ≡ g.W.Sink.faults l.initial.sink;
}

abbrev pub decreases-pieces : goal.decreases-pieces
decreases-pieces g l = length l.row - l.at
