use Rattle.av1_tile.specs.Memory.{HasRoomFor}
use Rattle.av1_tile.specs.Walk.{AreFrame, samples_of}
use Rattle.av1_tiles.specs.File.{file_value}
use Rattle.av1_tiles.specs.Seen.{SeesFront}
use Rattle.av1_tiles.proofs.Joining.{AreShown}
use Rattle.av1_tiles.proofs.joined.join_tiles.Given as goal

abbrev pub invariant-loop-index : goal.invariant-loop-index
invariant-loop-index g l = record {
  seen : SeesFront g.T.Pixel.num l.file.front l.seen;
  room : HasRoomFor l.file.front.header l.memory;
  planes : AreFrame l.file.front.header l.planes;
  shown : AreShown (file_value l.file) l.index (samples_of g.T.Pixel.num l.planes);
}
