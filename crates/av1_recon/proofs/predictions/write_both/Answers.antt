use Rattle.av1_plan.specs.Values.{plan_value}
use Rattle.av1_recon.proofs.InTurn.{none_begun, planes_cut, predictions_cut}
use Rattle.av1_recon.proofs.predictions.write_both.Goals as goal

pub returns-in_err-tile-clause-failed : goal.returns-in_err-tile-clause-failed
returns-in_err-tile-clause-failed g c =
    none_begun g.W.Sink.taken g.W.Sink.faults (plan_value c.args.plan.now) _ _ c.from_residual.result c.from_residual.ensures.1

pub returns-in_err-write_shown-clause-failed : goal.returns-in_err-write_shown-clause-failed
returns-in_err-write_shown-clause-failed g c =
    planes_cut g.W.Sink.taken g.W.Sink.faults (plan_value c.args.plan.now) _ _ _ c.from_residual-in_err-write_shown.result c.in_err-write_shown.ensures.prefix
    c.in_err-write_shown.ensures.cause.failed c.in_err-write_shown.ensures.cause.later c.from_residual-in_err-write_shown.ensures.1

pub returns-in_err-write_predicted-clause-failed : goal.returns-in_err-write_predicted-clause-failed
returns-in_err-write_predicted-clause-failed g c =
    predictions_cut g.W.Sink.taken g.W.Sink.faults (plan_value c.args.plan.now) _ _ _ _ c.from_residual-in_err-write_predicted.result
    c.in_ok-write_shown.ensures.whole
    c.in_ok-write_shown.ensures.cause.uncounted c.in_err-write_predicted.ensures.prefix c.in_err-write_predicted.ensures.cause.failed
    c.in_err-write_predicted.ensures.cause.later c.from_residual-in_err-write_predicted.ensures.1
