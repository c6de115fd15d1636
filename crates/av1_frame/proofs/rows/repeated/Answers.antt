use Rattle.std.proofs.Common.{◌*◌, ◌+◌, rules, arith}
use Rattle.av1_frame.proofs.OneValue.{more_of_one}
use Rattle.av1_frame.proofs.rows.repeated.Goals as goal

pub loop-run-preserved : goal.loop-run-preserved
loop-run-preserved g c = record {
  items = more_of_one (c.loop-run.run * 512) ((c.loop-run.run + 1) * 512) _ _ _ _ (omega arith) c.loop-run.invariant.items c.loop-run.invariant.len
      c.in_ok-resize.ensures.items;
  len = search rules;
}

pub returns-clause-items : goal.returns-clause-items
returns-clause-items g c =
    more_of_one (c.loop-run.run * 512) c.args.count _ _ _ _ (omega arith) c.loop-run.invariant.items c.loop-run.invariant.len c.in_ok-resize-2.ensures.items
