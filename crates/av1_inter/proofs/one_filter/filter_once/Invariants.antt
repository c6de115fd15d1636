use Rattle.std.proofs.Common.{◌≡◌, ◌≤◌, ◌-◌}
use Rattle.av1_frame.specs.Samples.{corner, paint}
use Rattle.av1_inter.specs.Scaffolding.{filtered}
use Rattle.av1_inter.proofs.one_filter.filter_once.Given as goal

abbrev pub invariant-loop-start : goal.invariant-loop-start
invariant-loop-start g l = record {
  room : l.start ≤ l.block.area.width;
  painted : l.target ≡ paint l.stride (corner l.block.area l.start l.block.area.height)
      (λ r c _. g.W.Writer.written l.block.bit_depth (filtered g.T.Pixel.num l.block l.taps r c)) l.initial.target;
}

abbrev pub decreases-loop-start : goal.decreases-loop-start
decreases-loop-start g l = l.block.area.width - l.start
