use Rattle.std.proofs.Common.{◌≡◌, ◌+◌}
use Rattle.av1_frame.specs.Planes.{sample_at}
use Rattle.av1_frame.specs.Samples.{corner, paint}
use Rattle.av1_tile.proofs.predicted.copy_area.Given as goal

abbrev pub invariant-loop-r : goal.invariant-loop-r
invariant-loop-r g l =
    l.samples ≡
    paint l.width (corner l.area l.area.width l.r)
    (λ r c _. g.T.Pixel.pixel (sample_at g.T.Pixel.num l.plane (l.area.x + c) (l.area.y + r))) l.initial.samples
