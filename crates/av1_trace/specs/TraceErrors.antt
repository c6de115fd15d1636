-- The error of a trace for each error of a lower call.
use Rattle.av1_plan.specs.declared.error.PlanError.{PlanError}
use Rattle.av1_plan.specs.declared.error.PlanError.TheVariants as plan_errors
use Rattle.av1_plan.specs.declared.error.Invalid.{Invalid}
use Rattle.av1_streams.specs.declared.read.ReadError.{ReadError}
use Rattle.av1_streams.specs.declared.read.ReadError.TheVariants as read_errors
use Rattle.av1_recon.specs.declared.error.PlanFault.TheVariants as faults
use Rattle.av1_trace.specs.declared.error.TraceError.{TraceError}
use Rattle.av1_trace.specs.declared.error.TraceError.TheVariants as errors

-- an error of reading
abbrev pub read_error : ReadError → TraceError
read_error read_errors.ReadFault = errors.ReadFault
read_error read_errors.TooLong = errors.TooLong
read_error read_errors.Memory = errors.Memory

-- an error of parsing the plan
abbrev pub plan_error : PlanError → TraceError
plan_error (plan_errors.Malformed at) = errors.Plan (faults.Malformed at)
plan_error plan_errors.Memory = errors.Memory

-- the first bad leaf of the plan, and the first reason
abbrev pub invalid_error : Invalid → TraceError
invalid_error fault = errors.Plan (faults.Invalid fault.leaf fault.kind)
