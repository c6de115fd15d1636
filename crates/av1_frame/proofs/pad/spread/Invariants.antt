use Rattle.std.proofs.Common.{◌≡◌}
use Rattle.av1_frame.specs.Samples.{gathered}
use Rattle.av1_frame.proofs.Gather.{spread_place}
use Rattle.av1_frame.proofs.pad.spread.Given as goal

abbrev pub invariant-loop-c : goal.invariant-loop-c
invariant-loop-c g l = l.row ≡ gathered (spread_place l.from l.first l.c) l.initial.row
