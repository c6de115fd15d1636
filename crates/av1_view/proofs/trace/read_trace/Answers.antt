use Rattle.std.proofs.Common.{refl, rules}
use Rattle.std.proofs.lemmas.Result.{IfOk-weaker}
use Rattle.av1_streams.proofs.Reading.{finds, read_whole}
use Rattle.av1_trace.specs.declared.error.TraceError.TheVariants.{Memory}
use Rattle.av1_trace.specs.Checking.{cause}
use Rattle.av1_trace.specs.Traces.{max_trace_bytes}
use Rattle.av1_trace.proofs.Reading.{trace_unread}
use Rattle.av1_trace.proofs.TraceOutcomes.{short_refused}
use Rattle.av1_view.specs.TracePages.{IsFound}
use Rattle.av1_view.proofs.trace.read_trace.Goals as goal

pub returns : goal.returns
returns g c =
    let read = c.in_ok-bytes.ensures in
    let whole =
    read_whole max_trace_bytes g.R.Source.left g.R.Source.faults _ _ _ c.deref.result.now c.deref.ensures.value read.fits read.short read.consumed
    read.end (read.uncounted (λ h. absurd cc)) in
    finds max_trace_bytes cause IsFound g.R.Source.left g.R.Source.faults _ _ c.deref.result.now Memory c.trace_of.result refl
    (short_refused c.deref.result.now) whole
    (IfOk-weaker c.trace_of.result _ _ (λ trace found. (whole.short, found)) c.trace_of.ensures.found) c.trace_of.ensures.refused

pub returns-in_err-bytes : goal.returns-in_err-bytes
returns-in_err-bytes g c = search (rules, trace_unread)
