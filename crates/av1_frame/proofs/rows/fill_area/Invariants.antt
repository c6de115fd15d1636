use Rattle.std.proofs.Common.{◌≡◌}
use Rattle.av1_frame.specs.Samples.{corner, paint}
use Rattle.av1_frame.proofs.rows.fill_area.Given as goal

abbrev pub invariant-loop-r : goal.invariant-loop-r
invariant-loop-r g l =
    l.samples ≡ paint l.stride (corner l.area l.area.width l.r) (λ _ _ _. l.value) l.initial.samples
