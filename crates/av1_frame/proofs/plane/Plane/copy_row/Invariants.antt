use Rattle.std.proofs.Common.{◌≡◌}
use Rattle.av1_frame.specs.Samples.{gathered}
use Rattle.av1_frame.proofs.Gather.{row_place}
use Rattle.av1_frame.proofs.plane.Plane.copy_row.Given as goal

abbrev pub invariant-loop-y : goal.invariant-loop-y
invariant-loop-y g l =
    l.self ≡ record l.initial.self { samples = gathered (row_place l.initial.self.plane_cfg.stride l.from l.first l.y) l.initial.self.samples }
