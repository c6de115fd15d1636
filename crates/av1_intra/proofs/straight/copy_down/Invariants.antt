use Rattle.std.proofs.Common.{◌≡◌, get_or}
use Rattle.av1_frame.specs.Samples.{corner, paint}
use Rattle.av1_intra.proofs.straight.copy_down.Given as goal

abbrev pub invariant-loop-r : goal.invariant-loop-r
invariant-loop-r g l =
    l.samples ≡ paint l.stride (corner l.area l.area.width l.r) (λ _ c v. get_or l.above c v) l.initial.samples
