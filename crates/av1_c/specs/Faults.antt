-- The faults of a call on a plan: their statuses, and what the caller learns about each.
use Rattle.std.specs.Prelude.{ℕ}
use Rattle.av1_plan.specs.declared.error.PlanError.{PlanError}
use Rattle.av1_plan.specs.declared.error.PlanError.TheVariants as plan_errors
use Rattle.av1_plan.specs.declared.error.Invalid.{Invalid as InvalidLeaf}
use Rattle.av1_plan.specs.declared.error.InvalidKind.{InvalidKind}
use Rattle.av1_plan.specs.declared.error.InvalidKind.TheVariants as kinds
use Rattle.av1_c.specs.declared.fault.PlanCallFault.{PlanCallFault}
use Rattle.av1_c.specs.declared.fault.PlanCallFault.TheVariants.{Memory, RoomTooSmall, TooLong, Malformed, Invalid}
use Rattle.av1_c.specs.declared.fault.Refusal.{Refusal}
use Rattle.av1_calls.specs.declared.status.TheConstants.{ROOM_TOO_SMALL}
use Rattle.av1_c.specs.declared.status.TheConstants.{OUT_OF_MEMORY, TOO_LONG, MALFORMED, INVALID}
use Rattle.av1_c.specs.declared.status.TheConstants.{INVALID_BLOCK_SIZE, INVALID_TRANSFORM, INVALID_MODE}
use Rattle.av1_c.specs.declared.status.TheConstants.{INVALID_VECTOR, MISSING_REFERENCE, INVALID_COEFFICIENT}

-- the fault of an error of parsing
abbrev pub plan_fault : PlanError → PlanCallFault
plan_fault (plan_errors.Malformed at) = Malformed at
plan_fault plan_errors.Memory = Memory

-- the fault of a bad leaf
abbrev pub invalid_fault : InvalidLeaf → PlanCallFault
invalid_fault fault = Invalid fault.leaf fault.kind

-- the number of a reason
abbrev pub kind_number : InvalidKind → ℕ
kind_number kinds.InvalidBlockSize = INVALID_BLOCK_SIZE
kind_number kinds.Transform = INVALID_TRANSFORM
kind_number kinds.Mode = INVALID_MODE
kind_number kinds.Vector = INVALID_VECTOR
kind_number kinds.MissingReference = MISSING_REFERENCE
kind_number kinds.Coefficient = INVALID_COEFFICIENT

-- the status of a call with this fault
abbrev pub status_of : PlanCallFault → ℕ
status_of Memory = OUT_OF_MEMORY
status_of (RoomTooSmall len) = ROOM_TOO_SMALL
status_of TooLong = TOO_LONG
status_of (Malformed at) = MALFORMED
status_of (Invalid leaf kind) = INVALID

-- the refusal for a bad field
abbrev pub malformed_at : ℕ → Refusal
malformed_at at = record { at = at; leaf = 0; kind = 0 }

-- the refusal for a bad leaf
abbrev pub invalid_leaf : ℕ → InvalidKind → Refusal
invalid_leaf leaf kind = record { at = 0; leaf = leaf; kind = kind_number kind }

-- the refusal after a call with this fault, if it was `before` before the call
abbrev pub told : PlanCallFault → Refusal → Refusal
told Memory before = before
told (RoomTooSmall len) before = before
told TooLong before = before
told (Malformed at) before = malformed_at at
told (Invalid leaf kind) before = invalid_leaf leaf kind

-- the length after a call with this fault, if it was `before` before the call
abbrev pub plan_length_told : PlanCallFault → ℕ → ℕ
plan_length_told (RoomTooSmall len) before = len
plan_length_told _ before = before
