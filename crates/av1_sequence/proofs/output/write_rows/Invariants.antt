use Rattle.std.proofs.Common.{◌≡◌}
use Rattle.std.specs.Io.KnownBytes.{Appends}
use Rattle.av1_recon.proofs.Rows.{rows_below}
use Rattle.av1_sequence.proofs.output.write_rows.Given as goal

abbrev pub invariant-loop-y : goal.invariant-loop-y
invariant-loop-y g l = record {
  so_far : Appends (g.W.Sink.taken l.initial.sink) (g.W.Sink.taken l.sink) (rows_below g.T.Pixel.num l.header l.plane l.p l.y);
  uncounted : g.W.Sink.faults l.sink ≡ g.W.Sink.faults l.initial.sink;
}
