use Rattle.std.proofs.Common.{sym, subst}
use Rattle.av1_streams.proofs.Performing.{carries_on, is_err, stops}
use Rattle.av1_trace.specs.Checking.{AreDifferences, Checks, IsFound, trace_task}
use Rattle.av1_trace.proofs.TraceOutcomes.{trace_task_sound}
use Rattle.av1_trace.proofs.trace.check_trace.Goals as goal

pub returns : goal.returns
returns g c =
    carries_on trace_task IsFound g.R.Source.left g.R.Source.faults g.W.Sink.taken g.W.Sink.faults _ _ _ _ c.in_ok-list.list c.deref.result.now
    c.count_differences.result
    (λ bytes found. subst (AreDifferences bytes) (sym c.deref.ensures.value) found) c.count_differences.ensures.count c.in_ok-list.ensures.reads
    c.count_differences.ensures.writes

pub returns-in_err-list : goal.returns-in_err-list
returns-in_err-list g c =
    subst (Checks g.R.Source.left g.R.Source.faults g.W.Sink.taken g.W.Sink.faults _ _ _ _)
    (sym (is_err c.from_residual.result c.in_err-list.field-0.0 c.from_residual.ensures.1))
    (stops trace_task trace_task_sound IsFound (λ bytes d refused. refused) g.R.Source.left g.R.Source.faults g.W.Sink.taken g.W.Sink.faults _ _ _
    c.in_err-list.field-0.0 c.in_err-list.ensures.reads)
