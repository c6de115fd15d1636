use Rattle.std.proofs.Common.{◌∙◌}
use Rattle.av1_plan.specs.Values.{plan_value}
use Rattle.av1_view.proofs.Pages.{packed_is}
use Rattle.av1_view.proofs.view.gather.Goals as goal

pub returns-clause-predictions : goal.returns-clause-predictions
returns-clause-predictions c =
    c.in_ok-predictions.ensures
    ∙ packed_is (plan_value c.args.plan.now) c.header.result.now c.row_len-row.result _ _ c.row_len-row.ensures c.header.ensures.value
    (c.deref.ensures.value ∙ c.in_ok-made.ensures.planes) (c.deref-2.ensures.value ∙ c.in_ok-made.ensures.predictions)
