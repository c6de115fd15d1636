use Rattle.std.proofs.Common.{◌∙◌}
use Rattle.av1_recon.proofs.Rows.{as_prefix}
use Rattle.av1_trace.specs.DifferenceLines.{difference_line}
use Rattle.av1_trace.proofs.Items.{Appends-item, Appends-items, AppendsPrefix-item}
use Rattle.av1_trace.proofs.lines.write_each.Goals as goal

pub returns-in_err-write_difference-clause-prefix : goal.returns-in_err-write_difference-clause-prefix
returns-in_err-write_difference-clause-prefix g c =
    AppendsPrefix-item difference_line c.args.list.now c.loop-difference.difference-index _ _ _ _ c.loop-difference-test.true c.loop-difference.invariant.so_far
    c.write_difference.ensures.prefix

pub loop-difference-preserved : goal.loop-difference-preserved
loop-difference-preserved g c = record {
  so_far =
      Appends-item difference_line c.args.list.now c.loop-difference.difference-index _ _ _ _ c.loop-difference-test.true c.loop-difference.invariant.so_far
      c.in_ok-write_difference.ensures.whole;
  uncounted = c.in_ok-write_difference.ensures.cause.uncounted ∙ c.loop-difference.invariant.uncounted;
}

pub returns-clause-whole : goal.returns-clause-whole
returns-clause-whole g c =
    Appends-items difference_line c.args.list.now c.loop-difference.difference-index _ _ c.loop-difference-test.false c.loop-difference.invariant.so_far

pub returns-clause-prefix : goal.returns-clause-prefix
returns-clause-prefix g c = as_prefix _ _ (returns-clause-whole g c)
