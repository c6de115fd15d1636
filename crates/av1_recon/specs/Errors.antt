-- The errors of lower calls as errors of the whole path.
use Rattle.av1_plan.specs.declared.error.PlanError.{PlanError}
use Rattle.av1_plan.specs.declared.error.PlanError.TheVariants as plan_errors
use Rattle.av1_plan.specs.declared.error.Invalid.{Invalid}
use Rattle.av1_streams.specs.declared.read.ReadError.{ReadError}
use Rattle.av1_streams.specs.declared.read.ReadError.TheVariants as read_errors
use Rattle.av1_recon.specs.declared.error.ReconError.{ReconError}
use Rattle.av1_recon.specs.declared.error.ReconError.TheVariants as errors

-- an error of reading
abbrev pub read_error : ReadError → ReconError
read_error read_errors.ReadFault = errors.ReadFault
read_error read_errors.TooLong = errors.TooLong
read_error read_errors.Memory = errors.Memory

-- an error of parsing
abbrev pub plan_error : PlanError → ReconError
plan_error (plan_errors.Malformed at) = errors.Malformed at
plan_error plan_errors.Memory = errors.Memory

-- the first faulty leaf and its first reason
abbrev pub invalid_error : Invalid → ReconError
invalid_error fault = errors.Invalid fault.leaf fault.kind
