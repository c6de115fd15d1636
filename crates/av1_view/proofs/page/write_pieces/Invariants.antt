use Rattle.std.proofs.Common.{◌≡◌, take}
use Rattle.std.specs.List.{flat_map}
use Rattle.std.specs.Io.KnownBytes.{Appends}
use Rattle.av1_view.specs.Page.{piece_text}
use Rattle.av1_view.proofs.page.write_pieces.Given as goal

abbrev pub invariant-loop-piece : goal.invariant-loop-piece
invariant-loop-piece g l = record {
  so_far : Appends (g.W.Sink.taken l.initial.sink) (g.W.Sink.taken l.sink) (flat_map piece_text (take l.piece-index l.pieces));
  uncounted : g.W.Sink.faults l.sink ≡ g.W.Sink.faults l.initial.sink;
}
