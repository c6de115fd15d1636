use Rattle.std.proofs.Common.{◌≡◌, ℕ, List, take}
use Rattle.std.specs.Io.KnownBytes.{Appends}
use Rattle.av1_sequence.specs.File.{file_value}
use Rattle.av1_sequence.specs.Files.{Lead, beginning}
use Rattle.av1_sequence.proofs.reconstruct.show_frames.Given as goal

abbrev pub invariant-loop-index : goal.invariant-loop-index
invariant-loop-index g l = record {
  shown : (written : List ℕ) × Lead (beginning (file_value l.file)) (take l.index (file_value l.file).entries) written l.sequence ×
      Appends (g.W.Sink.taken l.initial.sink) (g.W.Sink.taken l.sink) written;
  depth : l.sequence.frames.depth ≡ l.file.depth;
  uncounted : g.W.Sink.faults l.sink ≡ g.W.Sink.faults l.initial.sink;
}
