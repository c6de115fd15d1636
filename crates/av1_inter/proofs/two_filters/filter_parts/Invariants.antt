use Rattle.std.proofs.Common.{◌≡◌, ◌≤◌, ◌-◌}
use Rattle.av1_frame.specs.Samples.{corner, paint}
use Rattle.av1_inter.specs.Scaffolding.{both_ways, sample_of}
use Rattle.av1_inter.proofs.two_filters.filter_parts.Given as goal

abbrev pub invariant-loop-first : goal.invariant-loop-first
invariant-loop-first g l = record {
  room : l.first ≤ l.strip.area.height;
  painted : l.target ≡ paint l.stride (corner l.strip.area l.strip.area.width l.first)
      (λ r c _.
      g.W.Writer.written l.strip.bit_depth
      (both_ways (g.W.Writer.roundings l.strip.bit_depth).both l.strip.bit_depth l.halves.across l.halves.down (sample_of g.T.Pixel.num l.strip) r c))
      l.initial.target;
}

abbrev pub decreases-loop-first : goal.decreases-loop-first
decreases-loop-first g l = l.strip.area.height - l.first
