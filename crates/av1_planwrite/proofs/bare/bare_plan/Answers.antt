use Rattle.av1_planwrite.specs.Bare.{bare_text}
use Rattle.av1_recon.proofs.Converting.{carries_on, stops}
use Rattle.av1_planwrite.proofs.bare.bare_plan.Goals as goal

pub returns : goal.returns
returns g c =
    carries_on bare_text g.R.Source.left g.R.Source.faults g.W.Sink.taken g.W.Sink.faults _ _ _ _ c.in_ok-plan.plan c.append_bare.result c.in_ok-plan.ensures
    c.append_bare.ensures

pub returns-in_err-plan : goal.returns-in_err-plan
returns-in_err-plan g c =
    stops bare_text g.R.Source.left g.R.Source.faults g.W.Sink.taken g.W.Sink.faults _ _ _ c.from_residual.result c.in_err-plan.field-0.0
    c.from_residual.ensures.1 c.in_err-plan.ensures
