use Rattle.std.proofs.Common.{ap, refl}
use Rattle.av1_streams.specs.Streams.{max_plan_bytes}
use Rattle.av1_streams.proofs.Reading.{finds, read_err, read_whole, unread}
use Rattle.av1_recon.specs.declared.error.ReconError.TheVariants.{Memory}
use Rattle.av1_recon.specs.Errors.{read_error}
use Rattle.av1_recon.specs.Outcomes.{cause}
use Rattle.av1_recon.specs.Reading.{IsFound}
use Rattle.av1_recon.proofs.Outcomes.{short_refused}
use Rattle.av1_recon.proofs.Reading.{blames}
use Rattle.av1_recon.proofs.read.read_plan.Goals as goal

pub returns : goal.returns
returns g c =
    let read = c.in_ok-bytes.ensures in
    let whole =
    read_whole max_plan_bytes g.R.Source.left g.R.Source.faults _ _ _ c.deref.result.now c.deref.ensures.value read.fits read.short read.consumed
    read.end (read.uncounted (λ h. absurd cc)) in
    finds max_plan_bytes cause IsFound g.R.Source.left g.R.Source.faults _ _ c.deref.result.now Memory c.plan_of_bytes.result refl
    (short_refused c.deref.result.now) whole
    c.plan_of_bytes.ensures.found c.plan_of_bytes.ensures.refused

pub returns-in_err-bytes : goal.returns-in_err-bytes
returns-in_err-bytes g c =
    let read = c.in_err-bytes.ensures in
    unread max_plan_bytes cause IsFound g.R.Source.left g.R.Source.faults _ _ c.from_residual.result c.in_err-bytes.field-0.0
    (read_error c.in_err-bytes.field-0.0) (blames c.in_err-bytes.field-0.0)
    read.taken read.later (λ h. read.read_fault (ap read_err h)) read.uncounted (λ h. read.too_long (ap read_err h)) c.from_residual.ensures.1
