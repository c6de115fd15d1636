-- What the bytes of a sequence of frames come to, from what was gathered of it.
use Rattle.std.proofs.Common.{◌≡◌, ℕ, List, [], ◌++◌, Option, Ok, Err, refl, sym, ap, subst, ◌∙◌}
use Rattle.av1_sequence.specs.declared.error.FrameFault.TheVariants as frames
use Rattle.av1_sequence.specs.declared.error.SequenceError.{SequenceError}
use Rattle.av1_sequence.specs.declared.error.SequenceError.TheVariants as sequence
use Rattle.av1_sequence.specs.Files.{Answer}
use Rattle.av1_sequence.specs.Tasks.{Answers}
use Rattle.av1_sequence.proofs.FileOutcomes.{one_outcome}
use Rattle.av1_c.specs.Gathered.{gathered, taken_of}
use Rattle.av1_c.specs.PartFaults.{sequence_fault}
use Rattle.av1_c.specs.Parts.{IsPartCause, PartsOutcome}
use Rattle.av1_c.specs.Sequences.{SequenceComesTo}
use Rattle.av1_c.specs.declared.gathered.GatheringSink.{GatheringSink}
use Rattle.av1_c.proofs.Parts.{ComesToOne, came, failed}

abbrev of_sequence : List ℕ → Answer → PartsOutcome
of_sequence planes (Ok done) = Ok planes
of_sequence planes (Err e) = Err (sequence_fault e)

pub one_sequence : (bytes : List ℕ) → ComesToOne (SequenceComesTo bytes)
one_sequence bytes (Ok a) (Ok b) (c, p) (d, q) = ap came (one_outcome bytes a b (Ok c) (Ok d) p q).1
one_sequence bytes (Ok a) (Err g) (c, p) (w, (e, q, is)) = ap (of_sequence a) (one_outcome bytes a w (Ok c) (Err e) p q).0 ∙ sym (ap failed is)
one_sequence bytes (Err f) (Ok b) (v, (d, p, is)) (c, q) = ap failed is ∙ ap (of_sequence b) (one_outcome bytes v b (Err d) (Ok c) p q).0
one_sequence bytes (Err f) (Err g) (v, (d, p, is_f)) (w, (e, q, is_g)) =
    ap failed is_f ∙ ap (of_sequence []) (one_outcome bytes v w (Err d) (Err e) p q).0 ∙ sym (ap failed is_g)

sequence_cause : (bytes : List ℕ) (e : SequenceError) (taken taken' : Option (List ℕ)) → Answers (Err e) bytes taken taken' → (room : ℕ) →
    IsPartCause (SequenceComesTo bytes) room (sequence_fault e)
sequence_cause bytes sequence.ReadFault taken taken' p room = tt
sequence_cause bytes sequence.TooLong taken taken' (w, has, appended) room = (w, (sequence.TooLong, has, refl))
sequence_cause bytes (sequence.Malformed at) taken taken' (w, has, appended) room = (w, (sequence.Malformed at, has, refl))
sequence_cause bytes (sequence.Frame i frames.TooLarge) taken taken' (w, has, appended) room = (w, (sequence.Frame i frames.TooLarge, has, refl))
sequence_cause bytes (sequence.Frame i (frames.Malformed at)) taken taken' (w, has, appended) room =
    (w, (sequence.Frame i (frames.Malformed at), has, refl))
sequence_cause bytes (sequence.Frame i (frames.Invalid leaf kind)) taken taken' (w, has, appended) room =
    (w, (sequence.Frame i (frames.Invalid leaf kind), has, refl))
sequence_cause bytes (sequence.EmptySlot i) taken taken' (w, has, appended) room = (w, (sequence.EmptySlot i, has, refl))
sequence_cause bytes sequence.WriteFault taken taken' p room = tt
sequence_cause bytes sequence.Memory taken taken' p room = tt

module _ (told bytes : List ℕ) (sink sink' : GatheringSink) (same : told ≡ bytes) where
  pub sequence_found : (planes : List ℕ) (done : Unit {0}) → Answers (Ok done) told (taken_of sink) (taken_of sink') → gathered sink ≡ [] →
      planes ≡ gathered sink' → SequenceComesTo bytes (Ok planes)
  sequence_found planes done (written, has, appended) empty is =
      let all : written ≡ planes = sym (is ∙ appended ∙ ap (λ (xs : List ℕ). xs ++ written) empty) in
      subst (λ (bs : List ℕ). SequenceComesTo bs (Ok planes)) same (subst (λ (xs : List ℕ). SequenceComesTo told (Ok xs)) all (done, has))

  pub sequence_refused : (e : SequenceError) → Answers (Err e) told (taken_of sink) (taken_of sink') → (room : ℕ) →
      IsPartCause (SequenceComesTo bytes) room (sequence_fault e)
  sequence_refused e answers room =
      subst (λ (bs : List ℕ). IsPartCause (SequenceComesTo bs) room (sequence_fault e)) same
      (sequence_cause told e (taken_of sink) (taken_of sink') answers room)
