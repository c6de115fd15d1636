use Rattle.av1_tile.specs.Output.{planes_of}
use Rattle.av1_recon.proofs.Converting.{carries_on, stops, tells_all}
use Rattle.av1_recon.proofs.reconstruct.reconstruct_plan.Goals as goal

pub returns-clause-does : goal.returns-clause-does
returns-clause-does g c =
    carries_on planes_of g.R.Source.left g.R.Source.faults g.W.Sink.taken g.W.Sink.faults _ _ _ _ c.in_ok-plan.plan c.reconstruct_valid.result
    c.in_ok-plan.ensures c.reconstruct_valid.ensures

pub returns-clause-tells : goal.returns-clause-tells
returns-clause-tells g c =
    tells_all planes_of g.R.Source.left g.R.Source.faults g.W.Sink.taken g.W.Sink.faults _ _ _ _ c.reconstruct_valid.result (returns-clause-does g c)

pub returns-in_err-plan-clause-does : goal.returns-in_err-plan-clause-does
returns-in_err-plan-clause-does g c =
    stops planes_of g.R.Source.left g.R.Source.faults g.W.Sink.taken g.W.Sink.faults _ _ _ c.from_residual.result c.in_err-plan.field-0.0
    c.from_residual.ensures.1 c.in_err-plan.ensures

pub returns-in_err-plan-clause-tells : goal.returns-in_err-plan-clause-tells
returns-in_err-plan-clause-tells g c =
    tells_all planes_of g.R.Source.left g.R.Source.faults g.W.Sink.taken g.W.Sink.faults _ _ _ _ c.from_residual.result (returns-in_err-plan-clause-does g c)
