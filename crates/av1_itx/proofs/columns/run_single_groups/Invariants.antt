use Rattle.std.proofs.Common.{◌≡◌}
use Rattle.av1_lists.specs.Counts.{raised}
use Rattle.av1_itx.proofs.columns.run_single_groups.Given as goal

abbrev pub invariant-loop-g : goal.invariant-loop-g
invariant-loop-g l = l.count.groups ≡ raised l.initial.count.groups l._g
