use Rattle.std.proofs.Common.{◌≡◌}
use Rattle.av1_frame.specs.Samples.{paint_row}
use Rattle.av1_tile.proofs.fill.fill_slice.Given as goal

abbrev pub invariant-loop-i : goal.invariant-loop-i
invariant-loop-i g l = l.items ≡ paint_row l.i (λ _ _. l.value) l.initial.items
