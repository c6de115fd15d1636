use Rattle.std.proofs.Common.{◌^◌, ◌<◌}
use Rattle.av1_replay.specs.Drawn.{in_way}
use Rattle.av1_replay.proofs.Drawing.{AreDrawn}
use Rattle.av1_replay.proofs.drawn.Numbers.samples.Given as goal

abbrev pub invariant-loop : goal.invariant-loop
invariant-loop g l = record {
  drawn :
      AreDrawn g.T.Pixel.num (λ sample. g.T.Pixel.num sample < 2 ^ l.depth)
      (in_way l.way l.depth l.same) l.counter l.initial.self.state l.samples.items l.self.state;
  same : l.same < 2 ^ l.depth;
}
