-- The status of a call on bytes that hold plans as parts.
use Rattle.std.proofs.Common.{◌≡◌, ◌≢◌, inl, inr, ℕ, ◌<◌, List, length, Result, Ok, Err, refl, sym, ap, subst, ◌∙◌, arith}
use Rattle.std.specs.Prelude.{IfOk, IfErr, IsErrAnd}
use Rattle.std.proofs.lemmas.Bool.{le-leb, lt-leb}
use Rattle.av1_calls.specs.declared.status.TheConstants.{DONE, ROOM_TOO_SMALL}
use Rattle.av1_c.specs.PartFaults.{length_told, part_status, part_told}
use Rattle.av1_c.specs.Parts.{IsPartCause, PartsOutcome, PutsPlanes, status_of_parts}
use Rattle.av1_c.specs.Plans.{AreWritten}
use Rattle.av1_c.specs.declared.part_fault.PartFault.{PartFault}
use Rattle.av1_c.specs.declared.part_fault.PartFault.TheVariants.{EmptySlot, InvalidPart, Malformed, MalformedPart, Memory, RoomTooSmall, TooLong, TooLongPart}
use Rattle.av1_c.specs.declared.part_fault.PartRefusal.{PartRefusal}
use Rattle.av1_c.specs.declared.status.TheConstants.{OUT_OF_MEMORY}
use Rattle.av1_c.proofs.Statuses.{by_length}

-- bytes come to one thing
abbrev pub ComesToOne : (PartsOutcome → Type 0) → Type 0
ComesToOne ComesTo = (a b : PartsOutcome) → ComesTo a → ComesTo b → a ≡ b

abbrev pub came : List ℕ → PartsOutcome
came planes = Ok planes

abbrev pub failed : PartFault → PartsOutcome
failed fault = Err fault

-- an error is passed on
pub passed_err : {A : Type 0} (P : PartFault → Type 0) (result : Result A PartFault) (fault : PartFault) → IsErrAnd result (λ f. f ≡ fault) → P fault →
    IfErr result P
passed_err P (Ok a) fault is p = absurd is
passed_err P (Err f) fault is p = subst P (sym is) p

module _ (ComesTo : PartsOutcome → Type 0) (planes room : List ℕ) (comes : ComesTo (Ok planes)) where
  -- planes were put into a buffer, or it is too short
  pub put_written : (room' : List ℕ) (result : Result ℕ PartFault) → IfOk result (AreWritten planes room room')
      → IfOk result (λ count. (xs : List ℕ) × ComesTo (Ok xs) × AreWritten xs room room' count)
  put_written room' (Ok count) are = (planes, comes, are)
  put_written room' (Err fault) are = tt

  pub put_small : (result : Result ℕ PartFault) → IfErr result (λ fault. (fault ≡ RoomTooSmall (length planes)) × (length room < length planes)) →
      IfErr result (IsPartCause ComesTo (length room))
  put_small (Ok count) small = tt
  put_small (Err fault) (is, small) = subst (IsPartCause ComesTo (length room)) (sym is) (planes, comes, small, refl)

module _ (ComesTo : PartsOutcome → Type 0) (one : ComesToOne ComesTo) (room : List ℕ) (written : ℕ) (refusal : PartRefusal) where
  pub puts : (planes room' : List ℕ) (count : ℕ) → ComesTo (Ok planes) → AreWritten planes room room' count →
      PutsPlanes ComesTo room room' written count refusal refusal DONE
  puts planes room' count comes are = record {
    done = λ _. (planes, comes, are);
    small = λ e. cc;
    refused = λ undone _ _. absurd (undone refl);
    exactly = λ outcome other.
        inl (sym (ap by_length (le-leb (length planes) (length room) are.fits)) ∙ ap (status_of_parts (length room)) (one (Ok planes) outcome comes other));
    kept = λ undone. absurd (undone refl);
    uncounted = λ undone _. absurd (undone refl);
    untold = λ _. refl;
  }

  -- a fault of the bytes is told
  refuses_for : (written' : ℕ) (refusal' : PartRefusal) (fault : PartFault) (status : ℕ) → ComesTo (Err fault) → status ≡ part_status fault →
      refusal' ≡ part_told fault refusal → written' ≡ written
      → part_status fault ≢ DONE → part_status fault ≢ ROOM_TOO_SMALL → part_status fault ≢ OUT_OF_MEMORY →
      PutsPlanes ComesTo room room written written' refusal refusal' status
  refuses_for written' refusal' fault status comes is told same undone roomy there = record {
    done = λ e. absurd (undone (sym is ∙ e));
    small = λ e. absurd (roomy (sym is ∙ e));
    refused = λ _ _ _. (fault, comes, is, told);
    exactly = λ outcome other. inl (is ∙ ap (status_of_parts (length room)) (one (Err fault) outcome comes other));
    kept = λ _. refl;
    uncounted = λ _ _. same;
    untold = λ h. elim h [
      | inl e ↦ absurd (undone (sym is ∙ e))
      | inr more ↦ elim more [ inl e ↦ absurd (roomy (sym is ∙ e)) | inr e ↦ absurd (there (sym is ∙ e)) ]
    ];
  }

  pub refuses : (written' : ℕ) (refusal' : PartRefusal) (fault : PartFault) (status : ℕ) → IsPartCause ComesTo (length room) fault →
      status ≡ part_status fault → refusal' ≡ part_told fault refusal → written' ≡ length_told fault written →
      PutsPlanes ComesTo room room written written' refusal refusal' status
  refuses written' refusal' Memory status cause is told same = record {
    done = λ e. absurd (omega (arith, is, e));
    small = λ e. absurd (omega (arith, is, e));
    refused = λ _ _ there. absurd (there is);
    exactly = λ outcome other. inr is;
    kept = λ _. refl;
    uncounted = λ _ _. same;
    untold = λ _. told;
  }
  refuses written' refusal' (RoomTooSmall len) status (planes, comes, small, whole) is told same = record {
    done = λ e. absurd (omega (arith, is, e));
    small = λ _. (planes, comes, small, same ∙ whole);
    refused = λ _ roomy _. absurd (roomy is);
    exactly = λ outcome other.
        inl (is ∙ sym (ap by_length (lt-leb (length planes) (length room) small))
        ∙ ap (status_of_parts (length room)) (one (Ok planes) outcome comes other));
    kept = λ _. refl;
    uncounted = λ _ roomy. absurd (roomy is);
    untold = λ _. told;
  }
  refuses written' refusal' TooLong status comes is told same =
      refuses_for written' refusal' TooLong status comes is told same (λ e. cc) (λ e. cc) (λ e. cc)
  refuses written' refusal' (Malformed at) status comes is told same =
      refuses_for written' refusal' (Malformed at) status comes is told same (λ e. cc) (λ e. cc) (λ e. cc)
  refuses written' refusal' (TooLongPart part) status comes is told same =
      refuses_for written' refusal' (TooLongPart part) status comes is told same (λ e. cc) (λ e. cc) (λ e. cc)
  refuses written' refusal' (MalformedPart part at) status comes is told same =
      refuses_for written' refusal' (MalformedPart part at) status comes is told same (λ e. cc) (λ e. cc) (λ e. cc)
  refuses written' refusal' (InvalidPart part leaf kind) status comes is told same =
      refuses_for written' refusal' (InvalidPart part leaf kind) status comes is told same (λ e. cc) (λ e. cc) (λ e. cc)
  refuses written' refusal' (EmptySlot part) status comes is told same =
      refuses_for written' refusal' (EmptySlot part) status comes is told same (λ e. cc) (λ e. cc) (λ e. cc)
