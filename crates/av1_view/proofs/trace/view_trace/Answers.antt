use Rattle.std.proofs.Common.{ap, sym, subst}
use Rattle.av1_plan.specs.Values.{plan_value}
use Rattle.av1_streams.specs.Tasks.{Performs}
use Rattle.av1_streams.proofs.Performing.{carries_on, is_err, stops}
use Rattle.av1_view.specs.Shown.{trace_page}
use Rattle.av1_view.specs.TracePages.{IsFound, trace_page_task}
use Rattle.av1_view.proofs.TraceOutcomes.{says_nothing, trace_page_task_sound}
use Rattle.av1_view.proofs.trace.view_trace.Goals as goal

pub returns : goal.returns
returns g c =
    let plan = plan_value c.in_ok-trace.trace.plan in
    carries_on trace_page_task IsFound g.R.Source.left g.R.Source.faults g.W.Sink.taken g.W.Sink.faults _ _ _ _ c.in_ok-trace.trace
    (trace_page plan c.deref.result.now) c.append_trace.result
    (λ bytes found. (found.0, (plan, c.in_ok-trace.trace.planes.items, found.1, ap (trace_page plan) c.deref.ensures.value)))
    (says_nothing c.append_trace.result) c.in_ok-trace.ensures c.append_trace.ensures

pub returns-in_err-trace : goal.returns-in_err-trace
returns-in_err-trace g c =
    subst (Performs trace_page_task g.R.Source.left g.R.Source.faults g.W.Sink.taken g.W.Sink.faults _ _ _ _)
    (sym (is_err c.from_residual.result c.in_err-trace.field-0.0 c.from_residual.ensures.1))
    (stops trace_page_task trace_page_task_sound IsFound (λ bytes d refused. refused) g.R.Source.left g.R.Source.faults g.W.Sink.taken g.W.Sink.faults _ _ _
    c.in_err-trace.field-0.0 c.in_err-trace.ensures)
