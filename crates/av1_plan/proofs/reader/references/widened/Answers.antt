use Rattle.std.proofs.Common.{rules, arith, ◌∙◌}
use Rattle.av1_plan.proofs.Widened.{widened_more}
use Rattle.av1_plan.proofs.reader.references.widened.Goals as goal

pub loop-run-preserved : goal.loop-run-preserved
loop-run-preserved c =
    let long = c.widen.ensures.len ∙ c.loop-run.invariant.len in
    record {
      items = widened_more c.loop-run.run c.args.bytes.now _ c.widen.new.wide _ _ (omega arith) c.loop-run.invariant.items c.widen.ensures.front long
          c.in_ok-extend_from_slice.ensures.items (search rules);
      len = long;
    }
