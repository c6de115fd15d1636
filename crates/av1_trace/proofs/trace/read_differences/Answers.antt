use Rattle.std.proofs.Common.{refl, rules}
use Rattle.std.proofs.lemmas.Result.{IfOk-weaker}
use Rattle.av1_streams.proofs.Reading.{finds, read_whole}
use Rattle.av1_trace.specs.declared.error.TraceError.TheVariants.{Memory}
use Rattle.av1_trace.specs.Checking.{IsFound, cause}
use Rattle.av1_trace.specs.Traces.{max_trace_bytes}
use Rattle.av1_trace.proofs.Reading.{trace_unread}
use Rattle.av1_trace.proofs.TraceOutcomes.{short_refused}
use Rattle.av1_trace.proofs.trace.read_differences.Goals as goal

pub returns-clause-reads : goal.returns-clause-reads
returns-clause-reads g c =
    let read = c.in_ok-bytes.ensures in
    let whole =
    read_whole max_trace_bytes g.R.Source.left g.R.Source.faults _ _ _ c.deref.result.now c.deref.ensures.value read.fits read.short read.consumed
    read.end (read.uncounted (λ h. absurd cc)) in
    finds max_trace_bytes cause IsFound g.R.Source.left g.R.Source.faults _ _ c.deref.result.now Memory c.trace_differences.result refl
    (short_refused c.deref.result.now) whole
    (IfOk-weaker c.trace_differences.result _ _ (λ list found. (whole.short, found)) c.trace_differences.ensures.found) c.trace_differences.ensures.refused

pub returns-in_err-bytes-clause-reads : goal.returns-in_err-bytes-clause-reads
returns-in_err-bytes-clause-reads g c = search (rules, trace_unread)
