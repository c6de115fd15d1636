-- Bytes have an outcome, and one alone.
use Rattle.std.proofs.Common.{◌≡◌, inl, inr, ℕ, ◌<◌, ◌≤◌, ◌^◌, List, length, Option, Some, None, Result, Ok, Err, refl, sym, ap, ◌∙◌, arith}
use Rattle.std.specs.Prelude.{All}
use Rattle.std.proofs.lemmas.Bool.{cases_lt}
use Rattle.std.proofs.lemmas.List.{get_or_past}
use Rattle.std.proofs.lemmas.List.Elements.{All-get_or}
use Rattle.av1_plan.specs.Format.{Format, start, read_all}
use Rattle.av1_plan.specs.Grammar.{plan}
use Rattle.av1_plan.specs.Plan.{PlanValue}
use Rattle.av1_plan.specs.Spelling.{AreRefused}
use Rattle.av1_plan.specs.Validity.{first_fault}
use Rattle.av1_plan.specs.declared.error.Invalid.{Invalid}
use Rattle.av1_plan.proofs.Fields.{AreBytes}
use Rattle.av1_plan.proofs.Spelled.{one_text, all_found, all_refused}
use Rattle.av1_streams.specs.Streams.{max_plan_bytes}
use Rattle.av1_streams.specs.Tasks.{refused as refused_for, too_long}
use Rattle.av1_streams.proofs.Performing.{IsSound}
use Rattle.av1_tile.specs.Output.{planes_of}
use Rattle.av1_recon.specs.declared.error.ReconError.{ReconError}
use Rattle.av1_recon.specs.declared.error.ReconError.TheVariants.{ReadFault, TooLong, Malformed, Invalid as InvalidLeaf, WriteFault, Memory}
use Rattle.av1_recon.specs.Errors.{invalid_error}
use Rattle.av1_recon.specs.Outcomes.{Outcome, ArePlan, AreRefusedFor, HasOutcome, HasOutcomeBy, cause, plan_task}

abbrev ok : {A E : Type 0} → A → Result A E
ok x = Ok x

place_le : {A : Type 0} (f : Format A) (bytes : List ℕ) (a b : ℕ) → AreRefused f bytes a → AreRefused f bytes b → a ≤ b
place_le f bytes a b p q =
    let (vs, proper, front, len) = p.first.reached in
    omega (arith, len, q.first.longest vs proper front)

-- bytes are refused at one place
pub same_place : {A : Type 0} (f : Format A) (bytes : List ℕ) (a b : ℕ) → AreRefused f bytes a → AreRefused f bytes b → a ≡ b
same_place f bytes a b p q = omega (arith, place_le f bytes a b p q, place_le f bytes b a q p)

-- what bytes are to the grammar: too many, no text, or a text
pub data Reading : Type 0 where
  long : Reading
  refused : ℕ → Reading
  read : PlanValue → Reading

abbrev IsReading : List ℕ → Reading → Type 0
IsReading bytes long = max_plan_bytes < length bytes
IsReading bytes (refused at) = (length bytes ≤ max_plan_bytes) × AreRefused plan bytes at
IsReading bytes (read value) = ArePlan bytes value

reading_is : (bytes : List ℕ) (a b : Reading) → IsReading bytes a → IsReading bytes b → a ≡ b
reading_is bytes long long p q = refl
reading_is bytes long (refused d) p q = absurd (omega (arith, p, q.0))
reading_is bytes long (read v) p q = absurd (omega (arith, p, q.0))
reading_is bytes (refused d) long p q = absurd (omega (arith, p.0, q))
reading_is bytes (refused d) (refused e) p q = ap refused (same_place plan bytes d e p.1 q.1)
reading_is bytes (refused d) (read v) p q = absurd (p.1.no_text v q.1)
reading_is bytes (read v) long p q = absurd (omega (arith, p.0, q))
reading_is bytes (read v) (refused d) p q = absurd (q.1.no_text v p.1)
reading_is bytes (read v) (read w) p q = ap read (one_text plan bytes v w p.1 q.1)

abbrev judged_as : (PlanValue → List ℕ) → PlanValue → Option Invalid → Outcome
judged_as output value None = Ok (output value)
judged_as output value (Some fault) = Err (invalid_error fault)

abbrev judged : (PlanValue → List ℕ) → Reading → Outcome
judged output long = Err TooLong
judged output (refused at) = Err (Malformed at)
judged output (read value) = judged_as output value (first_fault value)

-- an outcome follows from a reading
of_reading : (output : PlanValue → List ℕ) (bytes : List ℕ) (outcome : Outcome) → HasOutcomeBy output bytes outcome →
    (r : Reading) × IsReading bytes r × (outcome ≡ judged output r)
of_reading output bytes (Ok written) (value, are, valid, e) = (read value, are, ap ok e ∙ sym (ap (judged_as output value) valid))
of_reading output bytes (Err TooLong) c = (long, c, refl)
of_reading output bytes (Err (Malformed at)) c = (refused at, c, refl)
of_reading output bytes (Err (InvalidLeaf leaf kind)) (value, are, fault) = (read value, are, sym (ap (judged_as output value) fault))
of_reading output bytes (Err ReadFault) c = absurd c
of_reading output bytes (Err WriteFault) c = absurd c
of_reading output bytes (Err Memory) c = absurd c

-- bytes have one outcome
pub one_outcome : (output : PlanValue → List ℕ) (bytes : List ℕ) (a b : Outcome) → HasOutcomeBy output bytes a → HasOutcomeBy output bytes b → b ≡ a
one_outcome output bytes a b p q =
    let (r, s, e) = of_reading output bytes a p in
    let (t, u, f) = of_reading output bytes b q in
    f ∙ ap (judged output) (reading_is bytes t r u s) ∙ sym e

of_plan : (bytes : List ℕ) (value : PlanValue) → ArePlan bytes value → (fault : Option Invalid) → first_fault value ≡ fault →
    (outcome : Outcome) × HasOutcome bytes outcome
of_plan bytes value are None e = (Ok (planes_of value), (value, are, e, refl))
of_plan bytes value are (Some fault) e = (Err (InvalidLeaf fault.leaf fault.kind), (value, are, e))

of_result : (bytes : List ℕ) → AreBytes bytes → length bytes ≤ max_plan_bytes → (result : Result PlanValue ℕ) → read_all plan (start bytes) ≡ result →
    (outcome : Outcome) × HasOutcome bytes outcome
of_result bytes fits short (Ok value) e = of_plan bytes value (short, all_found plan bytes value fits e) (first_fault value) refl
of_result bytes fits short (Err at) e = (Err (Malformed at), (short, all_refused plan bytes at fits e))

pub byte_fits : (bytes : List ℕ) → All (λ byte. byte < 2 ^ 8) bytes → AreBytes bytes
byte_fits bytes fits i = elim (cases_lt i (length bytes)) [
  | inl within ↦ All-get_or (λ byte. byte < 2 ^ 8) bytes i 0 within fits
  | inr past ↦ rw (get_or_past bytes i 0 past) (omega arith)
]

-- what is read of bytes is what they spell, where one follows from the other and the other from the one
pub read_exactly : {A : Type 0} (reading : List ℕ → Result A ℕ) (IsText : List ℕ → A → Type 0) →
    ((bytes : List ℕ) (x : A) → AreBytes bytes → reading bytes ≡ Ok x → IsText bytes x)
    → ((bytes : List ℕ) (x : A) → IsText bytes x → reading bytes ≡ Ok x)
    → (bytes : List ℕ) (x : A) → All (λ byte. byte < 2 ^ 8) bytes → (reading bytes ≡ Ok x → IsText bytes x) × (IsText bytes x → reading bytes ≡ Ok x)
read_exactly reading IsText found back bytes x fits = (found bytes x (byte_fits bytes fits), back bytes x)

-- bytes have some outcome
pub some_outcome : (bytes : List ℕ) → All (λ byte. byte < 2 ^ 8) bytes → (outcome : Outcome) × HasOutcome bytes outcome
some_outcome bytes fits = elim (cases_lt max_plan_bytes (length bytes)) [
  | inl over ↦ (Err TooLong, over)
  | inr short ↦ of_result bytes (byte_fits bytes fits) short (read_all plan (start bytes)) refl
]

-- bytes past the limit are refused for that
too_many : (bytes : List ℕ) (e : ReconError) → cause e ≡ too_long → max_plan_bytes < length bytes → AreRefusedFor bytes e
too_many bytes TooLong is over = over
too_many bytes ReadFault is over = absurd cc
too_many bytes (Malformed at) is over = absurd cc
too_many bytes (InvalidLeaf leaf kind) is over = absurd cc
too_many bytes WriteFault is over = absurd cc
too_many bytes Memory is over = absurd cc

pub plan_task_sound : (output : PlanValue → List ℕ) → IsSound (plan_task output)
plan_task_sound output = record {
  one = λ bytes a b p q. one_outcome output bytes b a q p;
  long = too_many;
}

-- bytes that are not too long are refused for what they are
pub short_refused : (bytes : List ℕ) (e : ReconError) → length bytes ≤ max_plan_bytes → AreRefusedFor bytes e → cause e ≡ refused_for
short_refused bytes TooLong short r = absurd (omega (arith, short, r))
short_refused bytes ReadFault short r = absurd r
short_refused bytes (Malformed at) short r = refl
short_refused bytes (InvalidLeaf leaf kind) short r = refl
short_refused bytes WriteFault short r = absurd r
short_refused bytes Memory short r = absurd r
