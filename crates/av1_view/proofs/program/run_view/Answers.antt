use Rattle.std.proofs.Common.{refl}
use Rattle.av1_recon.specs.Ends.{IsDone, written}
use Rattle.av1_recon.specs.Outcomes.{plan_task}
use Rattle.av1_recon.proofs.Ends.{done_apart, ends}
use Rattle.av1_recon.proofs.Outcomes.{plan_task_sound}
use Rattle.av1_view.specs.Shown.{plan_page}
use Rattle.av1_view.specs.FilePages.{sequence_page_task, tiles_page_task}
use Rattle.av1_view.specs.TracePages.{trace_page_task}
use Rattle.av1_view.proofs.SequenceFiles.{sequence_page_task_sound}
use Rattle.av1_view.proofs.TilesFiles.{tiles_page_task_sound}
use Rattle.av1_view.proofs.TraceOutcomes.{trace_page_task_sound}
use Rattle.av1_view.proofs.program.run_view.Goals as goal

pub returns-in-Some-Plan-clause-plan_ends : goal.returns-in-Some-Plan-clause-plan_ends
returns-in-Some-Plan-clause-plan_ends g c = λ command.
    ends IsDone done_apart (plan_task plan_page) (plan_task_sound plan_page) g.R.Source.left g.R.Source.faults g.W.Sink.taken g.W.Sink.faults _ _ _ _ written
    c.report.result
    c.view_plan.result (λ done. refl)
    c.report.ensures.status c.view_plan.ensures

pub returns-in-Some-Trace-clause-trace_ends : goal.returns-in-Some-Trace-clause-trace_ends
returns-in-Some-Trace-clause-trace_ends g c = λ command.
    ends IsDone done_apart trace_page_task trace_page_task_sound g.R.Source.left g.R.Source.faults g.W.Sink.taken g.W.Sink.faults _ _ _ _ written
    c.report_trace.result
    c.view_trace.result (λ done. refl)
    c.report_trace.ensures.status c.view_trace.ensures

pub returns-in-Some-Sequence-clause-sequence_ends : goal.returns-in-Some-Sequence-clause-sequence_ends
returns-in-Some-Sequence-clause-sequence_ends g c = λ command.
    ends IsDone done_apart sequence_page_task sequence_page_task_sound g.R.Source.left g.R.Source.faults g.W.Sink.taken g.W.Sink.faults _ _ _ _ written
    c.report_sequence.result
    c.view_sequence.result (λ done. refl)
    c.report_sequence.ensures.status c.view_sequence.ensures

pub returns-in-Some-Tiles-clause-tiles_ends : goal.returns-in-Some-Tiles-clause-tiles_ends
returns-in-Some-Tiles-clause-tiles_ends g c = λ command.
    ends IsDone done_apart tiles_page_task tiles_page_task_sound g.R.Source.left g.R.Source.faults g.W.Sink.taken g.W.Sink.faults _ _ _ _ written
    c.report_tiles.result
    c.view_tiles.result (λ done. refl)
    c.report_tiles.ensures.status c.view_tiles.ensures
