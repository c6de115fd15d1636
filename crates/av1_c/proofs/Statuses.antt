-- The status of a call is the one that the outcome of the bytes asks for.
use Rattle.std.proofs.Common.{◌≡◌, ◌≢◌, ◌⊎◌, inl, inr, ℕ, ◌<◌, ◌≤◌, List, length, Result, Ok, Err, Bool, refl, sym, ap, subst, ◌∙◌, arith}
use Rattle.std.specs.Prelude.{IfErr, IsErrAnd, if◌then◌else◌}
use Rattle.std.proofs.lemmas.Bool.{le-leb, lt-leb}
use Rattle.av1_recon.specs.Outcomes.{HasOutcome, Outcome}
use Rattle.av1_recon.specs.declared.error.ReconError.{ReconError}
use Rattle.av1_recon.specs.declared.error.ReconError.TheVariants as errors
use Rattle.av1_recon.proofs.Outcomes.{one_outcome}
use Rattle.av1_streams.specs.Streams.{max_plan_bytes}
use Rattle.av1_tile.specs.Output.{planes_of}
use Rattle.av1_c.specs.Faults.{plan_length_told, status_of}
use Rattle.av1_c.specs.Plans.{ComeToPlanes, IsCause, status_for}
use Rattle.av1_c.specs.declared.fault.PlanCallFault.{PlanCallFault}
use Rattle.av1_c.specs.declared.fault.PlanCallFault.TheVariants.{Invalid, Malformed, Memory, RoomTooSmall, TooLong}
use Rattle.av1_calls.specs.declared.status.TheConstants.{DONE, ROOM_TOO_SMALL}
use Rattle.av1_c.specs.declared.status.TheConstants.{OUT_OF_MEMORY, TOO_LONG}

-- a fault of the bytes is a cause whatever the buffer
pub passed_on : (bytes : List ℕ) (room : ℕ) (result : Result ℕ PlanCallFault) (e : PlanCallFault) → IsErrAnd result (λ fault. fault ≡ e) →
    ((room : ℕ) → IsCause bytes room e) → IfErr result (IsCause bytes room)
passed_on bytes room (Ok count) e is cause = absurd is
passed_on bytes room (Err fault) e is cause = subst (IsCause bytes room) (sym is) (cause room)

abbrev pub by_length : Bool → ℕ
by_length fits = if fits then DONE else ROOM_TOO_SMALL

-- 0 is asked for where planes fit
pub done_for : (bytes planes : List ℕ) (room : ℕ) → HasOutcome bytes (Ok planes) → length planes ≤ room → (outcome : Outcome) → HasOutcome bytes outcome →
    DONE ≡ status_for room outcome
done_for bytes planes room has fits outcome other =
    sym (ap (status_for room) (one_outcome planes_of bytes (Ok planes) outcome has other) ∙ ap by_length (le-leb (length planes) room fits))

refused_for : (bytes : List ℕ) (room : ℕ) (e : ReconError) → HasOutcome bytes (Err e) → (outcome : Outcome) → HasOutcome bytes outcome →
    status_for room (Err e) ≡ status_for room outcome
refused_for bytes room e has outcome other = sym (ap (status_for room) (one_outcome planes_of bytes (Err e) outcome has other))

-- and the status of a fault where this is the cause
pub fault_for : (bytes : List ℕ) (room : ℕ) (fault : PlanCallFault) (status : ℕ) → IsCause bytes room fault → status ≡ status_of fault → (outcome : Outcome) →
    HasOutcome bytes outcome
    → (status ≡ status_for room outcome) ⊎ (status ≡ OUT_OF_MEMORY)
fault_for bytes room Memory status cause is outcome other = inr is
fault_for bytes room (RoomTooSmall len) status (planes, has, (small, whole)) is outcome other =
    inl (is ∙ sym (ap (status_for room) (one_outcome planes_of bytes (Ok planes) outcome has other) ∙ ap by_length (lt-leb (length planes) room small)))
fault_for bytes room TooLong status cause is outcome other = inl (is ∙ refused_for bytes room errors.TooLong cause outcome other)
fault_for bytes room (Malformed at) status cause is outcome other = inl (is ∙ refused_for bytes room (errors.Malformed at) cause outcome other)
fault_for bytes room (Invalid leaf kind) status cause is outcome other = inl (is ∙ refused_for bytes room (errors.Invalid leaf kind) cause outcome other)

-- bytes that come to planes are not too long
pub few_bytes : (bytes planes : List ℕ) → HasOutcome bytes (Ok planes) → length bytes ≤ max_plan_bytes
few_bytes bytes planes (value, (few, text), valid, written) = few

-- nothing stands in the place of that there are too many
pub too_long_for : (bytes : List ℕ) (room : ℕ) (fault : PlanCallFault) → IsCause bytes room fault → max_plan_bytes < length bytes → status_of fault ≡ TOO_LONG
too_long_for bytes room Memory few long = absurd (omega (arith, few, long))
too_long_for bytes room (RoomTooSmall len) (planes, has, (small, whole)) long = let few = few_bytes bytes planes has in absurd (omega (arith, few, long))
too_long_for bytes room TooLong cause long = refl
too_long_for bytes room (Malformed at) (few, refused) long = absurd (omega (arith, few, long))
too_long_for bytes room (Invalid leaf kind) (value, (few, text), fault) long = absurd (omega (arith, few, long))

-- and only then is it said
pub told_long : (bytes : List ℕ) (room : ℕ) (fault : PlanCallFault) → IsCause bytes room fault → status_of fault ≡ TOO_LONG → max_plan_bytes < length bytes
told_long bytes room Memory few is = absurd (omega (arith, is))
told_long bytes room (RoomTooSmall len) small is = absurd (omega (arith, is))
told_long bytes room TooLong long is = long
told_long bytes room (Malformed at) refused is = absurd (omega (arith, is))
told_long bytes room (Invalid leaf kind) refused is = absurd (omega (arith, is))

-- where the buffer is too short, the length is told
pub small_for : (bytes : List ℕ) (room written written' : ℕ) (fault : PlanCallFault) (status : ℕ) → IsCause bytes room fault → status ≡ status_of fault →
    written' ≡ plan_length_told fault written → status ≡ ROOM_TOO_SMALL → ComeToPlanes bytes (λ planes. (room < length planes) × (written' ≡ length planes))
small_for bytes room written written' Memory status cause is same e = absurd (omega (arith, is, e))
small_for bytes room written written' (RoomTooSmall len) status (planes, has, (small, whole)) is same e = (planes, has, (small, same ∙ whole))
small_for bytes room written written' TooLong status cause is same e = absurd (omega (arith, is, e))
small_for bytes room written written' (Malformed at) status cause is same e = absurd (omega (arith, is, e))
small_for bytes room written written' (Invalid leaf kind) status cause is same e = absurd (omega (arith, is, e))

-- and nowhere else
pub uncounted_for : (written written' : ℕ) (fault : PlanCallFault) (status : ℕ) → status ≡ status_of fault → written' ≡ plan_length_told fault written →
    status ≢ ROOM_TOO_SMALL → written' ≡ written
uncounted_for written written' Memory status is same other = same
uncounted_for written written' (RoomTooSmall len) status is same other = absurd (other is)
uncounted_for written written' TooLong status is same other = same
uncounted_for written written' (Malformed at) status is same other = same
uncounted_for written written' (Invalid leaf kind) status is same other = same
