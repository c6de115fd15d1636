use Rattle.std.proofs.Common.{inl, refl}
use Rattle.av1_planwrite.specs.Bare.{bare_text}
use Rattle.av1_recon.specs.Ends.{written}
use Rattle.av1_recon.specs.Outcomes.{plan_task}
use Rattle.av1_recon.proofs.Ends.{ends}
use Rattle.av1_recon.proofs.Outcomes.{plan_task_sound}
use Rattle.av1_tiles.specs.Tasks.{tiles_task}
use Rattle.av1_tiles.proofs.Answering.{tiles_task_sound}
use Rattle.av1_trace.specs.Checking.{trace_task}
use Rattle.av1_trace.proofs.TraceOutcomes.{trace_task_sound}
use Rattle.av1_toolbox.specs.Answers.{trace_done}
use Rattle.av1_toolbox.specs.Ends.{IsSuccess}
use Rattle.av1_toolbox.proofs.Ends.{apart, trace_ends}
use Rattle.av1_toolbox.proofs.EndsInTurn.{ends_in_turn}
use Rattle.av1_toolbox.proofs.program.run_tools.Goals as goal

pub returns-in-Some-Tiles-clause-tiles_status : goal.returns-in-Some-Tiles-clause-tiles_status
returns-in-Some-Tiles-clause-tiles_status g c = λ command.
    ends IsSuccess apart tiles_task tiles_task_sound g.R.Source.left g.R.Source.faults g.W.Sink.taken g.W.Sink.faults _ _ _ _ written c.report_tiles.result
    c.reconstruct_tiles.result (λ done. inl refl)
    c.report_tiles.ensures.status c.reconstruct_tiles.ensures

pub returns-in-Some-Trace-clause-trace_status : goal.returns-in-Some-Trace-clause-trace_status
returns-in-Some-Trace-clause-trace_status g c = λ command.
    ends IsSuccess apart trace_task trace_task_sound g.R.Source.left g.R.Source.faults g.W.Sink.taken g.W.Sink.faults _ _ _ _ trace_done c.report_trace.result
    c.check_trace.result trace_ends
    c.report_trace.ensures.status c.check_trace.ensures

pub returns-in-Some-Sequence-clause-sequence_status : goal.returns-in-Some-Sequence-clause-sequence_status
returns-in-Some-Sequence-clause-sequence_status g c = λ command.
    ends_in_turn g.R.Source.left g.R.Source.faults g.W.Sink.taken g.W.Sink.faults _ _ _ _ c.report_sequence.result c.reconstruct_sequence.result
    c.report_sequence.ensures.status c.reconstruct_sequence.ensures.does c.reconstruct_sequence.ensures.tells

pub returns-in-Some-Bare-clause-bare_status : goal.returns-in-Some-Bare-clause-bare_status
returns-in-Some-Bare-clause-bare_status g c = λ command.
    ends IsSuccess apart (plan_task bare_text) (plan_task_sound bare_text) g.R.Source.left g.R.Source.faults g.W.Sink.taken g.W.Sink.faults _ _ _ _ written
    c.report.result
    c.bare_plan.result (λ done. inl refl)
    c.report.ensures.status c.bare_plan.ensures
