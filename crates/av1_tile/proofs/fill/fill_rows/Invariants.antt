use Rattle.std.proofs.Common.{◌≡◌}
use Rattle.av1_frame.specs.Regions.{painted}
use Rattle.av1_tile.proofs.fill.fill_rows.Given as goal

abbrev pub invariant-loop-r : goal.invariant-loop-r
invariant-loop-r g l = l.output ≡ painted l.initial.output l.initial.output.area.width l.r (λ _ _ _. l.value)
