use Rattle.std.proofs.Common.{◌≡◌, ◌≤◌, ◌-◌}
use Rattle.av1_frame.specs.Samples.{corner, paint}
use Rattle.av1_inter.specs.Scaffolding.{both_ways, sample_of}
use Rattle.av1_inter.proofs.two_filters.filter_twice.Given as goal

abbrev pub invariant-loop-start : goal.invariant-loop-start
invariant-loop-start g l = record {
  room : l.start ≤ l.block.area.width;
  painted : l.target ≡ paint l.stride (corner l.block.area l.start l.block.area.height)
      (λ r c _.
      g.W.Writer.written l.block.bit_depth
      (both_ways (g.W.Writer.roundings l.block.bit_depth).both l.block.bit_depth l.halves.across l.halves.down (sample_of g.T.Pixel.num l.block) r c))
      l.initial.target;
}

abbrev pub decreases-loop-start : goal.decreases-loop-start
decreases-loop-start g l = l.block.area.width - l.start
