use Rattle.std.proofs.Common.{◌≡◌}
use Rattle.av1_frame.specs.Samples.{paint}
use Rattle.av1_tile.proofs.cells.fill_rows.Given as goal

abbrev pub invariant-loop-r : goal.invariant-loop-r
invariant-loop-r l = l.cells ≡ paint l.columns (record { x = l.area.x; y = l.area.y; width = l.area.width; height = l.r }) (λ _ _ _. l.info) l.initial.cells
