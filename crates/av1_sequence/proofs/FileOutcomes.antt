-- The bytes of a sequence have an outcome, and one alone.
use Rattle.std.proofs.Common.{◌≡◌, inl, inr, ℕ, ◌<◌, ◌≤◌, List, [], length, Ok, Err, refl, sym, ap, subst, ◌∙◌}
use Rattle.std.proofs.lemmas.Bool.{cases_lt}
use Rattle.av1_plan.specs.Format.{Reading}
use Rattle.av1_plan.proofs.Parts.{clash, err_is}
use Rattle.av1_plan.proofs.Spelled.{ok_is}
use Rattle.av1_streams.specs.Streams.{AreBytes, max_plan_bytes}
use Rattle.av1_sequence.specs.declared.error.SequenceError.TheVariants as errors
use Rattle.av1_sequence.specs.Files.{Answer, AreFile, BytesHaveAnOutcome, HasOutcome, OutcomesAreOne, beginning, empty_slot, of_frame}
use Rattle.av1_sequence.specs.Grammar.{FileValue, read_file}
use Rattle.av1_sequence.proofs.Parts.{parts_fit}
use Rattle.av1_sequence.proofs.Running.{End, Runs, accepted_all, not_both_ways, one_run, refused_at, some_run}

-- what bytes are: too many, no sequence, or a sequence whose frames come to an end
data Shape : Type 0 where
  long : Shape
  broken : ℕ → Shape
  file : FileValue → End → Shape

abbrev IsShape : List ℕ → (written : List ℕ) → Shape → Type 0
IsShape bytes written long = (max_plan_bytes < length bytes) × (written ≡ [])
IsShape bytes written (broken at) = (length bytes ≤ max_plan_bytes) × (read_file bytes ≡ Err at) × (written ≡ [])
IsShape bytes written (file f end) = AreFile bytes f × Runs (beginning f) f.entries written end

abbrev pub answer_of : End → Answer
answer_of accepted_all = Ok tt
answer_of (refused_at i (of_frame fault)) = Err (errors.Frame i fault)
answer_of (refused_at i empty_slot) = Err (errors.EmptySlot i)

abbrev judged : Shape → Answer
judged long = Err errors.TooLong
judged (broken at) = Err (errors.Malformed at)
judged (file f end) = answer_of end

-- the frames of a sequence come to this end
pub of_run : (bytes written : List ℕ) (f : FileValue) → AreFile bytes f → (end : End) → Runs (beginning f) f.entries written end →
    HasOutcome bytes written (answer_of end)
of_run bytes written f is accepted_all run = (f, is, run)
of_run bytes written f is (refused_at i (of_frame fault)) run = (f, is, run)
of_run bytes written f is (refused_at i empty_slot) run = (f, is, run)

shape_of : (bytes written : List ℕ) (outcome : Answer) → HasOutcome bytes written outcome → (s : Shape) × IsShape bytes written s × (outcome ≡ judged s)
shape_of bytes written (Ok done) (f, is, lead) = (file f accepted_all, (is, lead), refl)
shape_of bytes written (Err errors.TooLong) c = (long, c, refl)
shape_of bytes written (Err (errors.Malformed at)) c = (broken at, c, refl)
shape_of bytes written (Err (errors.Frame i fault)) (f, is, first) = (file f (refused_at i (of_frame fault)), (is, first), refl)
shape_of bytes written (Err (errors.EmptySlot i)) (f, is, first) = (file f (refused_at i empty_slot), (is, first), refl)
shape_of bytes written (Err errors.ReadFault) c = absurd c
shape_of bytes written (Err errors.WriteFault) c = absurd c
shape_of bytes written (Err errors.Memory) c = absurd c

one_shape : (bytes written others : List ℕ) (a b : Shape) → IsShape bytes written a → IsShape bytes others b → (judged a ≡ judged b) × (written ≡ others)
one_shape bytes written others long long p q = (refl, p.1 ∙ sym q.1)
one_shape bytes written others long (broken d) p q = not_both_ways (length bytes) max_plan_bytes q.0 p.0
one_shape bytes written others long (file g e) p q = not_both_ways (length bytes) max_plan_bytes q.0.short p.0
one_shape bytes written others (broken d) long p q = not_both_ways (length bytes) max_plan_bytes p.0 q.0
one_shape bytes written others (broken d) (broken e) (short, p, none) (also, q, nothing) =
    (ap (λ (at : ℕ). judged (broken at)) (err_is d e (read_file bytes) p q), none ∙ sym nothing)
one_shape bytes written others (broken d) (file g e) (short, p, none) (is, run) = absurd (clash g d (sym is.read ∙ p))
one_shape bytes written others (file f e) long p q = not_both_ways (length bytes) max_plan_bytes p.0.short q.0
one_shape bytes written others (file f e) (broken d) (is, run) (short, q, none) = absurd (clash f d (sym is.read ∙ q))
one_shape bytes written others (file f e) (file g d) (is, run) (also, other) =
    let same : g ≡ f = ok_is g f (sym also.read ∙ is.read) in
    let there : Runs (beginning f) f.entries others d = subst (λ (v : FileValue). Runs (beginning v) v.entries others d) same other in
    let (ends, writes) = one_run (beginning f) f.entries written others e d run there in
    (ap answer_of ends, writes)

-- bytes have one outcome, of which one list of bytes is written
pub one_outcome : OutcomesAreOne
one_outcome bytes written others a b p q =
    let (r, s, e) = shape_of bytes written a p in
    let (t, u, d) = shape_of bytes others b q in
    let (same, writes) = one_shape bytes written others r t s u in
    (e ∙ same ∙ sym d, writes)

of_reading : (bytes : List ℕ) → AreBytes bytes → length bytes ≤ max_plan_bytes → (r : Reading FileValue) → read_file bytes ≡ r →
    (written : List ℕ) × ((outcome : Answer) × HasOutcome bytes written outcome)
of_reading bytes fits short (Err at) e = ([], (Err (errors.Malformed at), (short, e, refl)))
of_reading bytes fits short (Ok f) e =
    let is : AreFile bytes f = record { fits = fits; short = short; read = e } in
    let (written, (end, run)) = some_run (beginning f) f.entries (parts_fit bytes f is) in
    (written, (answer_of end, of_run bytes written f is end run))

-- bytes have some outcome
pub some_outcome : BytesHaveAnOutcome
some_outcome bytes fits =
    elim (cases_lt max_plan_bytes (length bytes)) [
      | inl over ↦ ([], (Err errors.TooLong, (over, refl)))
      | inr short ↦ of_reading bytes fits short (read_file bytes) refl
    ]
