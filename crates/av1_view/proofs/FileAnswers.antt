-- What calls say that show files, from what their halves say.
use Rattle.std.proofs.Common.{◌≡◌, ℕ, ◌<◌, List, length, Option, Result, Ok, Err, sym, ap, subst, ◌∙◌}
use Rattle.std.specs.Prelude.{IsErrAnd}
use Rattle.av1_streams.specs.Streams.{max_plan_bytes}
use Rattle.av1_streams.specs.Tasks.{Cause, too_long, Performs, Reads, WritesBytes}
use Rattle.av1_streams.proofs.Performing.{IsSound, carries_on, is_err, stops}
use Rattle.av1_view.specs.declared.file.KeptFile.{KeptFile}
use Rattle.av1_view.specs.FilePages.{HasPage, IsKept, Outcome, file_page, file_page_task}
use Rattle.av1_view.proofs.TraceOutcomes.{says_nothing}

module _ {E : Type 0} (ComesTo : Outcome E) (cause : E → Cause) where
  abbrev come_to : List ℕ → Result (List ℕ) E
  come_to planes = Ok planes

  same_planes : (xs ys : List ℕ) → come_to xs ≡ come_to ys → xs ≡ ys
  same_planes xs ys e = cc

  -- bytes come to one outcome
  abbrev pub AreOne : Type 0
  AreOne = (bytes : List ℕ) (a b : Result (List ℕ) E) → ComesTo bytes a → ComesTo bytes b → a ≡ b

  -- bytes past the limit are refused for that
  abbrev pub RefuseLong : Type 0
  RefuseLong = (bytes : List ℕ) (e : E) → cause e ≡ too_long → max_plan_bytes < length bytes → ComesTo bytes (Err e)

  one_page : AreOne → (bytes : List ℕ) (a b : Result (List ℕ) E) → HasPage ComesTo bytes a → HasPage ComesTo bytes b → a ≡ b
  one_page one bytes (Ok v) (Ok w) (xs, come, is) (ys, other, also) =
      ap come_to (is ∙ ap (file_page bytes) (same_planes xs ys (one bytes (Ok xs) (Ok ys) come other)) ∙ sym also)
  one_page one bytes (Ok v) (Err e) (xs, come, is) refused = let same : come_to xs ≡ Err e = one bytes (Ok xs) (Err e) come refused in absurd cc
  one_page one bytes (Err e) (Ok w) refused (ys, come, is) = let same : come_to ys ≡ Err e = one bytes (Ok ys) (Err e) come refused in absurd cc
  one_page one bytes (Err d) (Err e) p q = one bytes (Err d) (Err e) p q

  pub page_task_sound : AreOne → RefuseLong → IsSound (file_page_task ComesTo cause)
  page_task_sound one long = record { one = one_page one; long = long }

  module _ {S K : Type 0} (left : S → Option (List ℕ)) (source_faults : S → ℕ) (taken : K → Option (List ℕ)) (sink_faults : K → ℕ) where
    abbrev DoesPerform : S → S → K → K → Result (Unit {0}) E → Type 0
    DoesPerform source source' sink sink' answer =
        Performs (file_page_task ComesTo cause) left source_faults taken sink_faults source source' sink sink' answer

    -- a file was read and reconstructed, and its page was written
    pub shows : (source source' : S) (sink sink' : K) (file : KeptFile) (answer : Result (Unit {0}) E)
        → Reads max_plan_bytes cause (IsKept ComesTo) left source_faults source source' (Ok file)
        → WritesBytes cause taken sink_faults sink sink' (file_page file.bytes.items file.planes.items) answer →
        DoesPerform source source' sink sink' answer
    shows source source' sink sink' file answer reads writes =
        carries_on (file_page_task ComesTo cause) (IsKept ComesTo) left source_faults taken sink_faults source source' sink sink' file
        (file_page file.bytes.items file.planes.items) answer
        (λ bytes found. (file.planes.items, found.1, ap (λ (l : List ℕ). file_page l file.planes.items) found.0)) (says_nothing answer) reads writes

    -- there was none, and the answer is why
    pub ends_so : AreOne → RefuseLong → (source source' : S) (sink : K) (answer : Result (Unit {0}) E) (e : E) → IsErrAnd answer (λ d. d ≡ e)
        → Reads max_plan_bytes cause (IsKept ComesTo) left source_faults source source' (Err e) → DoesPerform source source' sink sink answer
    ends_so one long source source' sink answer e is reads =
        subst (DoesPerform source source' sink sink) (sym (is_err answer e is))
        (stops (file_page_task ComesTo cause) (page_task_sound one long) (IsKept ComesTo) (λ bytes d r. r) left source_faults taken sink_faults source source'
        sink e reads)
