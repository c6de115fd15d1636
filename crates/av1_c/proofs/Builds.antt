-- What a call of a builder leaves, and which status it answers.
use Rattle.std.proofs.Common.{◌≡◌, ◌≢◌, ℕ, ◌+◌, ◌^◌, ◌≤◌, Bool, true, ◌&&◌, List, [], ◌++◌, length, take, drop, Result, Ok, Err, refl, sym, ap, subst, ◌∙◌}
use Rattle.std.proofs.Common.{arith}
use Rattle.std.specs.Prelude.{OnErr, OnOk}
use Rattle.std.specs.List.{list_all}
use Rattle.std.proofs.lemmas.Bool.{le-leb}
use Rattle.std.proofs.lemmas.List.{length-append, length-drop, length-take-le}
use Rattle.std.proofs.Math.Seq.{take-append_seam, drop-append_seam}
use Rattle.av1_plan.specs.declared.header.Header.{Header}
use Rattle.av1_planwrite.specs.declared.error.BuildError.TheVariants.{NotNow, NotAdmitted, TooLong, Memory}
use Rattle.av1_planwrite.specs.declared.progress.Progress.{Progress}
use Rattle.av1_planwrite.specs.declared.state.State.{State}
use Rattle.av1_planwrite.specs.Builder.{built}
use Rattle.av1_planwrite.specs.Building.{Building, refusal}
use Rattle.av1_planwrite.specs.States.{is_state, stopped}
use Rattle.av1_planwrite.specs.Text.{byte}
use Rattle.av1_planwrite.proofs.BuilderParts.{other_bytes}
use Rattle.av1_c.specs.BuildFaults.{answered, build_status, asked_status}
use Rattle.av1_c.specs.Builders.{AreAppended, Hold, header_of, is_part, state_of}
use Rattle.av1_c.specs.declared.build_fault.BuildFault.{BuildFault}
use Rattle.av1_c.specs.declared.build_fault.BuildFault.TheVariants.{BadState, Refused, RoomTooSmall}
use Rattle.av1_c.specs.declared.builder.Builder.{Builder}
use Rattle.av1_c.specs.declared.plan_header.PlanHeader.{PlanHeader}
use Rattle.av1_calls.specs.declared.status.TheConstants.{DONE}

-- ---- what a call leaves

front_is : (room room' more : List ℕ) (written end : ℕ) → AreAppended room room' more written end
    → (take end room' ≡ take written room ++ more) × ((drop end room' ≡ drop end room) × (length room' ≡ length room))
front_is room room' more written end a =
    let front = take written room ++ more in
    let len : length front ≡ end =
    omega (arith, length-append (take written room) more, length-take-le written room (omega (arith, a.fits, a.end_is)), a.end_is) in
    let whole : room' ≡ front ++ drop end room = a.room_is in
    let kept : take end room' ≡ front = ap (take end) whole
    ∙ subst (λ (n : ℕ). take n (front ++ drop end room) ≡ front) len (take-append_seam front (drop end room)) in
    let behind : drop end room' ≡ drop end room = ap (drop end) whole
    ∙ subst (λ (n : ℕ). drop n (front ++ drop end room) ≡ drop end room) len (drop-append_seam front (drop end room)) in
    (kept, (behind, omega (arith, ap length whole, length-append front (drop end room), length-drop end room, len, a.fits)))

-- a builder that holds how far the plan has come, over the bytes that were appended
pub held : (h : PlanHeader) (b : Builder) (written end : ℕ) (room room' more : List ℕ) (p : Progress) (state : State) (plan : Building)
    → b.header ≡ h → state_of b ≡ state → b.written ≡ end → list_all is_part b.parts ≡ true → AreAppended room room' more written end
    → stopped (built p []).header state ≡ built p [] → is_state (built p []).header state ≡ true
    → built p plan.bytes ≡ plan → plan.header ≡ header_of h → plan.bytes ≡ take written room ++ more → Hold b room' room plan
held h b written end room room' more p state plan same stored count parts a stop valid whole header bytes =
    let (kept, (behind, len)) = front_is room room' more written end a in
    let at : p.walk.header ≡ header_of b.header = ap (λ (d : Building). d.header) whole ∙ header ∙ sym (ap header_of same) in
    let valid_here : is_state (header_of b.header) (state_of b) ≡ true =
    subst (λ (s : State). is_state (header_of b.header) s ≡ true) (sym stored) (subst (λ (g : Header). is_state g state ≡ true) at valid) in
    let stop_here : stopped (header_of b.header) (state_of b) ≡ built p [] =
    subst (λ (s : State). stopped (header_of b.header) s ≡ built p []) (sym stored) (subst (λ (g : Header). stopped g state ≡ built p []) at stop) in
    let front : take b.written room' ≡ plan.bytes = ap (λ (n : ℕ). take n room') count ∙ kept ∙ sym bytes in
    let holds = other_bytes _ _ (take b.written room') stop_here ∙ ap (λ (bs : List ℕ). built p bs) front ∙ whole in
    record {
      valid = both (both (le-leb b.written (length room') (omega (arith, count, len, a.fits))) parts) valid_here;
      holds = holds;
      behind = ap (λ (n : ℕ). drop n room') count ∙ behind ∙ sym (ap (λ (n : ℕ). drop n room) count);
    }
  where
    both : {c d : Bool} → c ≡ true → d ≡ true → (c && d) ≡ true
    both e f = rw (e, f) refl

-- so many bytes stand behind a mark
pub one_more : (room : List ℕ) (written mark : ℕ) → written ≤ length room → written + 1 ≡ length (take written room ++ byte mark)
one_more room written mark fits = omega (arith, length-append (take written room) (byte mark), length-take-le written room fits)

-- and behind other fields
pub more_bytes : (room bytes : List ℕ) (written : ℕ) (fields : List ℕ) → bytes ≡ fields → written ≤ length room →
    written + length bytes ≡ length (take written room ++ fields)
more_bytes room bytes written fields is fits = omega (arith, ap length is, length-append (take written room) fields, length-take-le written room fits)

-- ---- statuses

-- all is done
pub done_status : (valid asked admitted : Bool) (bytes : List ℕ) (room : ℕ) → valid ≡ true → asked ≡ true → admitted ≡ true → length bytes ≤ 2 ^ 26 →
    length bytes ≤ room
    → DONE ≡ asked_status valid (refusal asked admitted bytes) (length bytes) room
done_status valid asked admitted bytes room v e f short fits = rw (v, e, f, le-leb (length bytes) (2 ^ 26) short, le-leb (length bytes) room fits) refl

-- ---- what is answered

never_done : (f : BuildFault) → build_status f ≢ DONE
never_done BadState = λ e. absurd cc
never_done (Refused NotNow) = λ e. absurd cc
never_done (Refused NotAdmitted) = λ e. absurd cc
never_done (Refused TooLong) = λ e. absurd cc
never_done (Refused Memory) = λ e. absurd cc
never_done RoomTooSmall = λ e. absurd cc

-- 0 is answered where all was done
pub on_done : {X : Type 0} (ended : Result X BuildFault) (status : ℕ) (P : Type 0) → status ≡ answered ended → OnOk ended P → status ≡ DONE → P
on_done (Ok x) status P is p e = p
on_done (Err f) status P is p e = absurd (never_done f (sym is ∙ e))

-- and any other status where nothing was
pub on_other : {X : Type 0} (ended : Result X BuildFault) (status : ℕ) (P : Type 0) → status ≡ answered ended → OnErr ended P → status ≢ DONE → P
on_other (Ok x) status P is p other = absurd (other is)
on_other (Err f) status P is p other = p
