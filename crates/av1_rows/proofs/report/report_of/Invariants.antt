use Rattle.std.proofs.Common.{◌≡◌}
use Rattle.av1_rows.specs.Reports.{lines_below}
use Rattle.av1_rows.specs.Tallies.{counts_by}
use Rattle.av1_rows.proofs.report.report_of.Given as goal

abbrev pub invariant-loop-kind : goal.invariant-loop-kind
invariant-loop-kind l = l.report.items ≡ lines_below (counts_by l.tally) l.kind
