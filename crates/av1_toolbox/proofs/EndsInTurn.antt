-- What the exit status says of a sequence of frames, by what the call did.
use Rattle.std.proofs.Common.{◌≡◌, inl, inr, ℕ, List, Option, Ok, Err, refl, sym, subst}
use Rattle.std.specs.Prelude.{IfSome, IsOk}
use Rattle.std.proofs.lemmas.Option.{IfSome_then}
use Rattle.av1_sequence.specs.declared.error.SequenceError.{SequenceError}
use Rattle.av1_sequence.specs.declared.error.SequenceError.TheVariants as errors
use Rattle.av1_sequence.specs.Files.{Answer}
use Rattle.av1_sequence.specs.Tasks.{AnswersInTurn, ErrorAnswers, IsBeforeFrames, PerformsInTurn, cause_of}
use Rattle.av1_streams.specs.Tasks.{Cause, read_failed, too_long, refused, write_failed, no_memory}
use Rattle.av1_streams.proofs.Told.{any}
use Rattle.av1_recon.specs.Ends.{error_status, answer_status, written}
use Rattle.av1_toolbox.specs.EndsInTurn.{EndsInTurn}

-- a failed read comes before the frames
before_frames : (e : SequenceError) → cause_of e ≡ read_failed → IsBeforeFrames e
before_frames errors.ReadFault is = tt
before_frames errors.TooLong is = tt
before_frames (errors.Malformed at) is = tt
before_frames (errors.Frame i fault) is = absurd cc
before_frames (errors.EmptySlot i) is = absurd cc
before_frames errors.WriteFault is = absurd cc
before_frames errors.Memory is = absurd cc

not_ok : {X : Type 0} (e : SequenceError) (r : Answer) → r ≡ Err e → IsOk r → X
not_ok e (Ok done) is ok = absurd cc
not_ok e (Err d) is ok = absurd cc

module _ {S K : Type 0} (left : S → Option (List ℕ)) (source_faults : S → ℕ) (taken : K → Option (List ℕ)) (sink_faults : K → ℕ) (source source' : S)
    (sink sink' : K) where
  abbrev EndsBy : ℕ → Type 0
  EndsBy status = EndsInTurn left source_faults taken sink_faults source source' sink sink' status

  abbrev Told : Answer → Type 0
  Told answer = AnswersInTurn left source_faults taken sink_faults source source' sink sink' answer

  -- the call succeeded
  ok_ends : (done : Unit {0}) → Told (Ok done) → EndsBy 0
  ok_ends done told = record {
    done = λ is. told.answers;
    refused = λ is. absurd cc;
    memory = λ is. absurd cc;
    read_fault = λ is. absurd cc;
    write_fault = λ is. absurd cc;
    no_other = inl refl;
    complete = λ no_read no_write. any (left source) _ (λ bytes w d has. inl refl);
    refuses = IfSome_then (left source) told.exactly (λ bytes f w e has. not_ok e (Err e) refl (f w (Err e) has));
  }

  -- it failed, for this cause
  error_ends : (e : SequenceError) (cause : Cause) → cause_of e ≡ cause → IfSome (left source) (λ bytes. ErrorAnswers cause e bytes (taken sink) (taken sink'))
      → PerformsInTurn left source_faults taken sink_faults source source' sink sink' (Err e) → Told (Err e) → EndsBy (error_status cause)
  error_ends e too_long is given p told = record {
    done = λ h. absurd cc;
    refused = λ h. IfSome_then (left source) given (λ bytes x. (e, x));
    memory = λ h. absurd cc;
    read_fault = λ h. absurd cc;
    write_fault = λ h. absurd cc;
    no_other = inr (inl refl);
    complete =
        λ no_read no_write. IfSome_then (left source) (told.complete no_read no_write)
        (λ bytes f w d has. elim (f w d has) [ inl ok ↦ absurd cc | inr memory ↦ absurd cc ]);
    refuses = any (left source) _ (λ bytes w d has. inl refl);
  }
  error_ends e refused is given p told = record {
    done = λ h. absurd cc;
    refused = λ h. IfSome_then (left source) given (λ bytes x. (e, x));
    memory = λ h. absurd cc;
    read_fault = λ h. absurd cc;
    write_fault = λ h. absurd cc;
    no_other = inr (inl refl);
    complete =
        λ no_read no_write. IfSome_then (left source) (told.complete no_read no_write)
        (λ bytes f w d has. elim (f w d has) [ inl ok ↦ absurd cc | inr memory ↦ absurd cc ]);
    refuses = any (left source) _ (λ bytes w d has. inl refl);
  }
  error_ends e no_memory is given p told = record {
    done = λ h. absurd cc;
    refused = λ h. absurd cc;
    memory = λ h. given;
    read_fault = λ h. absurd cc;
    write_fault = λ h. absurd cc;
    no_other = inr (inr (inl refl));
    complete = λ no_read no_write. any (left source) _ (λ bytes w d has. inr refl);
    refuses = any (left source) _ (λ bytes w d has. inr (inl refl));
  }
  error_ends e read_failed is given p told = record {
    done = λ h. absurd cc;
    refused = λ h. absurd cc;
    memory = λ h. absurd cc;
    read_fault = λ h. (p.read_fault is, p.unwritten (before_frames e is));
    write_fault = λ h. absurd cc;
    no_other = inr (inr (inr (inl refl)));
    complete =
        λ no_read no_write. IfSome_then (left source) (told.complete no_read no_write)
        (λ bytes f w d has. elim (f w d has) [ inl ok ↦ absurd cc | inr memory ↦ absurd cc ]);
    refuses = any (left source) _ (λ bytes w d has. inr (inr (inl refl)));
  }
  error_ends e write_failed is given p told = record {
    done = λ h. absurd cc;
    refused = λ h. absurd cc;
    memory = λ h. absurd cc;
    read_fault = λ h. absurd cc;
    write_fault = λ h. (p.write_fault is, given);
    no_other = inr (inr (inr (inr refl)));
    complete =
        λ no_read no_write. IfSome_then (left source) (told.complete no_read no_write)
        (λ bytes f w d has. elim (f w d has) [ inl ok ↦ absurd cc | inr memory ↦ absurd cc ]);
    refuses = any (left source) _ (λ bytes w d has. inr (inr (inr refl)));
  }

  pub ends_in_turn : (status : ℕ) (answer : Answer) → status ≡ answer_status cause_of written answer →
      PerformsInTurn left source_faults taken sink_faults source source' sink sink' answer → Told answer → EndsBy status
  ends_in_turn status (Ok done) is p told = subst EndsBy (sym is) (ok_ends done told)
  ends_in_turn status (Err e) is p told = subst EndsBy (sym is) (error_ends e (cause_of e) refl told.answers p told)
