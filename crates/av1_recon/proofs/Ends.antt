-- What the exit status says, by what the call did.
use Rattle.std.proofs.Common.{◌≡◌, inl, inr, ℕ, List, Option, Result, Ok, Err, ◌∙◌, refl, sym, subst}
use Rattle.std.proofs.lemmas.Option.{IfSome_then}
use Rattle.av1_streams.specs.Tasks.{Cause, read_failed, too_long, refused, write_failed, no_memory, Task, IsRefusal, ErrorTells, Performs, AnswersBytes}
use Rattle.av1_streams.proofs.Performing.{IsSound}
use Rattle.av1_streams.proofs.Told.{answers_bytes, any}
use Rattle.av1_streams.specs.Tasks.{WritesBytes}
use Rattle.av1_recon.specs.Ends.{answer_status, error_status, EndsMade, EndsWith, IsDone}

-- statuses of success are none of a failure
pub record AreApart (IsSuccess : ℕ → Type 0) : Type 0 where
  pub not_2 : ¬ IsSuccess 2
  pub not_3 : ¬ IsSuccess 3
  pub not_4 : ¬ IsSuccess 4
  pub not_5 : ¬ IsSuccess 5

-- 0 is none
pub done_apart : AreApart IsDone
done_apart = record { not_2 = λ h. absurd cc; not_3 = λ h. absurd cc; not_4 = λ h. absurd cc; not_5 = λ h. absurd cc }

-- a write fails only where there is something to write
no_refusal : {E : Type 0} (O : Type 0) (cause : Cause) (e d : E) → cause ≡ write_failed → ErrorTells {O = O} cause e (Err d) → ⊥
no_refusal O write_failed e d is tells = absurd cc
no_refusal O read_failed e d is tells = absurd cc
no_refusal O too_long e d is tells = absurd cc
no_refusal O refused e d is tells = absurd cc
no_refusal O no_memory e d is tells = absurd cc

module _ {O A E S K : Type 0} (IsSuccess : ℕ → Type 0) (apart : AreApart IsSuccess) (task : Task O A E) (sound : IsSound task)
    (left : S → Option (List ℕ)) (source_faults : S → ℕ) (taken : K → Option (List ℕ)) (sink_faults : K → ℕ)
    (source source' : S) (sink sink' : K) where
  told : (answer : Result A E) → Performs task left source_faults taken sink_faults source source' sink sink' answer →
      AnswersBytes task left source_faults taken sink_faults source source' sink sink' answer
  told answer p = answers_bytes task sound left source_faults taken sink_faults source source' sink sink' answer p

  -- the call succeeded
  ok_ends : (a : A) (n : ℕ) → IsSuccess n → Performs task left source_faults taken sink_faults source source' sink sink' (Ok a) →
      EndsWith IsSuccess task left source_faults taken sink_faults source source' sink sink' n
  ok_ends a n h p = record {
    done = λ is. (told (Ok a) p).ok;
    refused = λ is. absurd (apart.not_2 (subst IsSuccess is h));
    memory = λ is. absurd (apart.not_3 (subst IsSuccess is h));
    read_fault = λ is. absurd (apart.not_4 (subst IsSuccess is h));
    write_fault = λ is. absurd (apart.not_5 (subst IsSuccess is h));
    no_other = inl h;
    complete = λ no_read no_write. any (left source) _ (λ bytes outcome come. inl h);
    refuses = IfSome_then (left source) (told (Ok a) p).exactly (λ bytes f e come. absurd (f (Err e) come));
  }

  -- it failed, for this cause
  error_ends : (e : E) (cause : Cause) → task.cause e ≡ cause → Performs task left source_faults taken sink_faults source source' sink sink' (Err e)
      → EndsWith IsSuccess task left source_faults taken sink_faults source source' sink sink' (error_status cause)
  error_ends e too_long is p = record {
    done = λ h. absurd (apart.not_2 h);
    refused = λ h. (IfSome_then (left source) ((told (Err e) p).refused (subst IsRefusal (sym is) tt)) (λ bytes come. (e, come)), p.unwritten (λ w. absurd cc));
    memory = λ h. absurd cc;
    read_fault = λ h. absurd cc;
    write_fault = λ h. absurd cc;
    no_other = inr (inl refl);
    complete =
        λ no_read no_write. IfSome_then (left source) ((told (Err e) p).complete no_read no_write)
        (λ bytes f outcome come. elim (f outcome come) [ inl ok ↦ absurd cc | inr memory ↦ absurd cc ]);
    refuses = any (left source) _ (λ bytes d come. inl refl);
  }
  error_ends e refused is p = record {
    done = λ h. absurd (apart.not_2 h);
    refused = λ h. (IfSome_then (left source) ((told (Err e) p).refused (subst IsRefusal (sym is) tt)) (λ bytes come. (e, come)), p.unwritten (λ w. absurd cc));
    memory = λ h. absurd cc;
    read_fault = λ h. absurd cc;
    write_fault = λ h. absurd cc;
    no_other = inr (inl refl);
    complete =
        λ no_read no_write. IfSome_then (left source) ((told (Err e) p).complete no_read no_write)
        (λ bytes f outcome come. elim (f outcome come) [ inl ok ↦ absurd cc | inr memory ↦ absurd cc ]);
    refuses = any (left source) _ (λ bytes d come. inl refl);
  }
  error_ends e no_memory is p = record {
    done = λ h. absurd (apart.not_3 h);
    refused = λ h. absurd cc;
    memory = λ h. p.unwritten (λ w. absurd cc);
    read_fault = λ h. absurd cc;
    write_fault = λ h. absurd cc;
    no_other = inr (inr (inl refl));
    complete = λ no_read no_write. any (left source) _ (λ bytes outcome come. inr refl);
    refuses = any (left source) _ (λ bytes d come. inr (inl refl));
  }
  error_ends e read_failed is p = record {
    done = λ h. absurd (apart.not_4 h);
    refused = λ h. absurd cc;
    memory = λ h. absurd cc;
    read_fault = λ h. (p.read_fault is, p.unwritten (λ w. absurd cc));
    write_fault = λ h. absurd cc;
    no_other = inr (inr (inr (inl refl)));
    complete =
        λ no_read no_write. IfSome_then (left source) ((told (Err e) p).complete no_read no_write)
        (λ bytes f outcome come. elim (f outcome come) [ inl ok ↦ absurd cc | inr memory ↦ absurd cc ]);
    refuses = any (left source) _ (λ bytes d come. inr (inr refl));
  }
  error_ends e write_failed is p = record {
    done = λ h. absurd (apart.not_5 h);
    refused = λ h. absurd cc;
    memory = λ h. absurd cc;
    read_fault = λ h. absurd cc;
    write_fault = λ h. (p.write_fault is, (told (Err e) p).prefix is);
    no_other = inr (inr (inr (inr refl)));
    complete =
        λ no_read no_write. IfSome_then (left source) ((told (Err e) p).complete no_read no_write)
        (λ bytes f outcome come. elim (f outcome come) [ inl ok ↦ absurd cc | inr memory ↦ absurd cc ]);
    refuses = IfSome_then (left source) (told (Err e) p).exactly (λ bytes f d come. absurd (no_refusal O (task.cause e) e d is (f (Err d) come)));
  }

  pub ends : (done : A → ℕ) (status : ℕ) (answer : Result A E) → ((a : A) → IsSuccess (done a)) → status ≡ answer_status task.cause done answer
      → Performs task left source_faults taken sink_faults source source' sink sink' answer →
      EndsWith IsSuccess task left source_faults taken sink_faults source source' sink sink' status
  ends done status (Ok a) h is p =
      subst (EndsWith IsSuccess task left source_faults taken sink_faults source source' sink sink') (sym is) (ok_ends a (done a) (h a) p)
  ends done status (Err e) h is p =
      subst (EndsWith IsSuccess task left source_faults taken sink_faults source source' sink sink') (sym is) (error_ends e (task.cause e) refl p)

-- ---- of a call that reads nothing

module _ {A E K : Type 0} (IsMade : List ℕ → Type 0) (task_cause : E → Cause) (taken : K → Option (List ℕ)) (faults : K → ℕ)
    (sink sink' : K) (bytes : List ℕ) (made : IsMade bytes) where
  -- it failed, for this cause
  error_made : (e : E) (cause : Cause) → task_cause e ≡ cause → WritesBytes {A = A} task_cause taken faults sink sink' bytes (Err e) →
      EndsMade IsMade taken faults sink sink' (error_status cause)
  error_made e no_memory is w = record {
    done = λ h. absurd cc;
    memory = λ h. (w.unwritten (λ write. absurd cc)).1;
    write_fault = λ h. absurd cc;
    no_other = inr (inl refl);
    complete = λ no_write. inr refl;
  }
  error_made e write_failed is w = record {
    done = λ h. absurd cc;
    memory = λ h. absurd cc;
    write_fault = λ h. (w.write_fault is, (bytes, made, w.prefix is));
    no_other = inr (inr refl);
    complete = λ no_write. absurd (no_write (w.write_fault is));
  }
  error_made e read_failed is w = let memory = (w.unwritten (λ write. absurd cc)).0 in absurd cc
  error_made e too_long is w = let memory = (w.unwritten (λ write. absurd cc)).0 in absurd cc
  error_made e refused is w = let memory = (w.unwritten (λ write. absurd cc)).0 in absurd cc

  pub ends_made : (done : A → ℕ) (status : ℕ) (answer : Result A E) → ((a : A) → done a ≡ 0) → status ≡ answer_status task_cause done answer
      → WritesBytes task_cause taken faults sink sink' bytes answer → EndsMade IsMade taken faults sink sink' status
  ends_made done status (Ok a) h is w = subst (EndsMade IsMade taken faults sink sink') (sym (is ∙ h a)) (record {
    done = λ zero. (bytes, made, w.ok);
    memory = λ no. absurd cc;
    write_fault = λ no. absurd cc;
    no_other = inl refl;
    complete = λ no_write. inl refl;
  })
  ends_made done status (Err e) h is w = subst (EndsMade IsMade taken faults sink sink') (sym is) (error_made e (task_cause e) refl w)
