-- What the bytes of a sequence come to, and what its reconstruction in memory says of them.
use Rattle.std.proofs.Common.{◌≡◌, ◌≢◌, ℕ, ◌≤◌, List, [], length, Some, Result, Ok, Err, refl, sym, ap, subst, ◌∙◌, arith}
use Rattle.av1_sequence.specs.declared.error.SequenceError.{SequenceError}
use Rattle.av1_sequence.specs.declared.error.SequenceError.TheVariants.{ReadFault, TooLong, Malformed, Frame, EmptySlot, WriteFault, Memory}
use Rattle.av1_sequence.specs.Files.{Answer, HasOutcome}
use Rattle.av1_sequence.specs.Tasks.{Answers, cause_of}
use Rattle.av1_sequence.proofs.FileOutcomes.{one_outcome}
use Rattle.av1_streams.specs.Streams.{max_plan_bytes}
use Rattle.av1_streams.specs.Tasks.{refused}
use Rattle.av1_streams.proofs.Performing.{IsSound}
use Rattle.av1_view.specs.FilePages.{SequenceComesTo, sequence_in_memory, sequence_page_task}
use Rattle.av1_view.proofs.FileAnswers.{AreOne, RefuseLong, page_task_sound}

abbrev come_to : List ℕ → Result (List ℕ) SequenceError
come_to planes = Ok planes

-- an answer without planes
abbrev told : Answer → Result (List ℕ) SequenceError
told (Ok done) = Ok []
told (Err e) = Err e

pub one_sequence : AreOne SequenceComesTo cause_of
one_sequence bytes (Ok v) (Ok w) p q = ap come_to (one_outcome bytes v w (Ok tt) (Ok tt) p q).1
one_sequence bytes (Ok v) (Err e) p (w, q) = let same : told (Ok tt) ≡ told (Err e) = ap told (one_outcome bytes v w (Ok tt) (Err e) p q).0 in absurd cc
one_sequence bytes (Err e) (Ok v) (w, q) p = let same : told (Ok tt) ≡ told (Err e) = ap told (one_outcome bytes v w (Ok tt) (Err e) p q).0 in absurd cc
one_sequence bytes (Err d) (Err e) (v, p) (w, q) = ap told (one_outcome bytes v w (Err d) (Err e) p q).0

pub long_sequence : RefuseLong SequenceComesTo cause_of
long_sequence bytes TooLong is over = ([], (over, refl))
long_sequence bytes ReadFault is over = absurd cc
long_sequence bytes (Malformed at) is over = absurd cc
long_sequence bytes (Frame i fault) is over = absurd cc
long_sequence bytes (EmptySlot i) is over = absurd cc
long_sequence bytes WriteFault is over = absurd cc
long_sequence bytes Memory is over = absurd cc

pub sequence_page_task_sound : IsSound sequence_page_task
sequence_page_task_sound = page_task_sound SequenceComesTo cause_of one_sequence long_sequence

-- bytes within the limit are refused for what they are
pub short_sequence : (bytes : List ℕ) (e : SequenceError) → length bytes ≤ max_plan_bytes → SequenceComesTo bytes (Err e) → cause_of e ≡ refused
short_sequence bytes TooLong short (planes, (over, none)) = absurd (omega (arith, short, over))
short_sequence bytes (Malformed at) short r = refl
short_sequence bytes (Frame i fault) short r = refl
short_sequence bytes (EmptySlot i) short r = refl
short_sequence bytes ReadFault short (planes, r) = absurd r
short_sequence bytes WriteFault short (planes, r) = absurd r
short_sequence bytes Memory short (planes, r) = absurd r

-- ---- in memory

-- what was gathered are the planes of all frames
pub sequence_gathered : (bytes read before after planes : List ℕ) (result : Answer) (done : Unit {0}) → read ≡ bytes → before ≡ [] → planes ≡ after →
    result ≡ Ok done → Answers result read (Some before) (Some after) → SequenceComesTo bytes (Ok planes)
sequence_gathered bytes read before after planes result done same none is answer given =
    let of_bytes : Answers result bytes (Some before) (Some after) = subst (λ (l : List ℕ). Answers result l (Some before) (Some after)) same given in
    let from_none : Answers result bytes (Some []) (Some after) = subst (λ (l : List ℕ). Answers result bytes (Some l) (Some after)) none of_bytes in
    let (written, has, all) = subst (λ (r : Answer). Answers r bytes (Some []) (Some after)) answer from_none in
    subst (λ (l : List ℕ). HasOutcome bytes l (Ok tt)) (sym (is ∙ all)) has

refused_so : (bytes before after : List ℕ) (e : SequenceError) → Answers (Err e) bytes (Some before) (Some after) → sequence_in_memory e ≢ Memory →
    SequenceComesTo bytes (Err (sequence_in_memory e))
refused_so bytes before after TooLong (written, has, all) other = (written, has)
refused_so bytes before after (Malformed at) (written, has, all) other = (written, has)
refused_so bytes before after (Frame i fault) (written, has, all) other = (written, has)
refused_so bytes before after (EmptySlot i) (written, has, all) other = (written, has)
refused_so bytes before after ReadFault answers other = absurd (other refl)
refused_so bytes before after WriteFault answers other = absurd (other refl)
refused_so bytes before after Memory answers other = absurd (other refl)

-- an error refuses the bytes, or memory ran out
pub sequence_refused : (bytes read before after : List ℕ) (result : Answer) (e mapped : SequenceError) → read ≡ bytes → result ≡ Err e →
    mapped ≡ sequence_in_memory e → Answers result read (Some before) (Some after) → mapped ≢ Memory → SequenceComesTo bytes (Err mapped)
sequence_refused bytes read before after result e mapped same answer is given other =
    let of_bytes : Answers result bytes (Some before) (Some after) = subst (λ (l : List ℕ). Answers result l (Some before) (Some after)) same given in
    let of_error : Answers (Err e) bytes (Some before) (Some after) = subst (λ (r : Answer). Answers r bytes (Some before) (Some after)) answer of_bytes in
    subst (λ (d : SequenceError). SequenceComesTo bytes (Err d)) (sym is) (refused_so bytes before after e of_error (λ h. other (is ∙ h)))
