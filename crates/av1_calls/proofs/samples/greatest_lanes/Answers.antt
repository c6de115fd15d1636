use Rattle.av1_calls.proofs.Lanes.{no_rows, row_on}
use Rattle.av1_calls.proofs.samples.greatest_lanes.Goals as goal

pub loop-r-init : goal.loop-r-init
loop-r-init c = no_rows c.args.stride c.args.area c.args.samples.now

pub with_row-lanes-requires-clause-long : goal.with_row-lanes-requires-clause-long
with_row-lanes-requires-clause-long c = c.requires.rows.rows c.loop-r.r c.loop-r-test.true

pub loop-r-preserved : goal.loop-r-preserved
loop-r-preserved c = row_on c.args.stride c.args.area c.args.samples.now c.loop-r.r c.loop-r.invariant c.with_row-lanes.ensures
