use Rattle.std.proofs.Common.{◌≡◌, ap, refl}
use Rattle.av1_sequence.specs.declared.error.SequenceError.TheVariants.{Memory}
use Rattle.av1_sequence.specs.Errors.{read_error}
use Rattle.av1_sequence.specs.Tasks.{cause_of}
use Rattle.av1_streams.specs.Streams.{max_plan_bytes}
use Rattle.av1_streams.specs.declared.read.ReadError.TheVariants as read_errors
use Rattle.av1_streams.proofs.Reading.{finds, read_cause, read_err, read_whole, unread}
use Rattle.av1_view.specs.FilePages.{IsKept, SequenceComesTo}
use Rattle.av1_view.proofs.SequenceFiles.{short_sequence}
use Rattle.av1_view.proofs.sequence.read_kept.Goals as goal

pub returns : goal.returns
returns g c =
    let read = c.in_ok-bytes.ensures in
    let bytes = c.in_ok-bytes.bytes.items in
    let whole =
    read_whole max_plan_bytes g.R.Source.left g.R.Source.faults _ _ bytes bytes refl read.fits read.short read.consumed read.end
    (read.uncounted (λ h. absurd cc)) in
    finds max_plan_bytes cause_of (IsKept SequenceComesTo) g.R.Source.left g.R.Source.faults _ _ bytes Memory c.kept.result refl (short_sequence bytes) whole
    c.kept.ensures.found c.kept.ensures.refused

pub returns-in_err-bytes : goal.returns-in_err-bytes
returns-in_err-bytes g c =
    let read = c.in_err-bytes.ensures in
    unread max_plan_bytes cause_of (IsKept SequenceComesTo) g.R.Source.left g.R.Source.faults _ _ c.from_residual.result c.in_err-bytes.field-0.0
    (read_error c.in_err-bytes.field-0.0)
    (elim c.in_err-bytes.field-0.0 as (λ e. cause_of (read_error e) ≡ read_cause e) [ read_errors.ReadFault ↦ refl | _ ↦ refl ])
    read.taken read.later (λ h. read.read_fault (ap read_err h)) read.uncounted (λ h. read.too_long (ap read_err h)) c.from_residual.ensures.1
