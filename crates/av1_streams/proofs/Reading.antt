-- What reading a value says, from what reading its bytes and what finding it in them say.
use Rattle.std.proofs.Common.{◌≡◌, ◌≢◌, ℕ, ◌+◌, ◌<◌, ◌≤◌, List, length, get_or, Option, Result, Ok, Err, refl, sym, ap, subst, ◌∙◌, arith}
use Rattle.std.proofs.lemmas.List.{get_or_default}
use Rattle.std.specs.Prelude.{IfOk, IfErr, IsErrAnd, Vec}
use Rattle.std.specs.declared.alloc.Global.{Global}
use Rattle.std.specs.Io.KnownBytes.{Consumes, IsAtEnd}
use Rattle.av1_streams.specs.Faults.{FaultCounted}
use Rattle.av1_streams.specs.Streams.{AreBytes, Takes, TakesAtMost}
use Rattle.av1_streams.specs.Tasks.{Cause, too_long, refused, read_failed, write_failed, no_memory, ErrorFinds, Reads}
use Rattle.av1_streams.specs.declared.read.ReadError.{ReadError}
use Rattle.av1_streams.specs.declared.read.ReadError.TheVariants as read_errors
use Rattle.av1_streams.proofs.Performing.{is_err}

-- numbers that fit a byte wherever they are read
pub are_bytes : (bytes : List ℕ) → ((i : ℕ) → get_or bytes i 0 < 256) → AreBytes bytes
are_bytes bytes f k d h = subst (λ (v : ℕ). v < 256) (get_or_default bytes k 0 d h) (f k)

-- these bytes were read to their end
pub record AreReadWhole {S : Type 0} (limit : ℕ) (left : S → Option (List ℕ)) (faults : S → ℕ) (source source' : S) (bytes : List ℕ) : Type 0 where
  pub fits : AreBytes bytes
  pub short : length bytes ≤ limit
  pub consumed : Consumes (left source) (left source') bytes
  pub end : IsAtEnd (left source')
  pub uncounted : faults source' ≡ faults source

pub read_whole : {S : Type 0} (limit : ℕ) (left : S → Option (List ℕ)) (faults : S → ℕ) (source source' : S) (read bytes : List ℕ) → bytes ≡ read
    → AreBytes read → length read ≤ limit → Consumes (left source) (left source') read → IsAtEnd (left source') → faults source' ≡ faults source
    → AreReadWhole limit left faults source source' bytes
read_whole limit left faults source source' read bytes same fits short consumed end uncounted =
    subst (AreReadWhole limit left faults source source') (sym same)
    (record { fits = fits; short = short; consumed = consumed; end = end; uncounted = uncounted })

-- what reading bytes answers where it fails
abbrev pub read_err : ReadError → Result (Vec ℕ Global) ReadError
read_err e = Err e

-- what an error of reading blames
abbrev pub read_cause : ReadError → Cause
read_cause read_errors.ReadFault = read_failed
read_cause read_errors.TooLong = too_long
read_cause read_errors.Memory = no_memory

module _ {V E : Type 0} (limit : ℕ) (cause : E → Cause) (Found : List ℕ → Result V E → Type 0) where
  error_found : (e memory : E) (c : Cause) (bytes : List ℕ) (left' : Option (List ℕ)) → cause e ≡ c → cause memory ≡ no_memory →
      ((e : E) → length bytes ≤ limit → Found bytes (Err e) → cause e ≡ refused)
      → length bytes ≤ limit → IsAtEnd left' → (e ≢ memory → Found bytes (Err e)) → ErrorFinds limit Found c e bytes left'
  error_found e memory no_memory bytes left' is memory_is refusals short end found = tt
  error_found e memory refused bytes left' is memory_is refusals short end found =
      (found (λ h. let same : refused ≡ no_memory = sym is ∙ ap cause h ∙ memory_is in absurd cc), end)
  error_found e memory too_long bytes left' is memory_is refusals short end found =
      let f = found (λ h. let same : too_long ≡ no_memory = sym is ∙ ap cause h ∙ memory_is in absurd cc) in
      let same : too_long ≡ refused = sym is ∙ refusals e short f in absurd cc
  error_found e memory read_failed bytes left' is memory_is refusals short end found =
      let f = found (λ h. let same : read_failed ≡ no_memory = sym is ∙ ap cause h ∙ memory_is in absurd cc) in
      let same : read_failed ≡ refused = sym is ∙ refusals e short f in absurd cc
  error_found e memory write_failed bytes left' is memory_is refusals short end found =
      let f = found (λ h. let same : write_failed ≡ no_memory = sym is ∙ ap cause h ∙ memory_is in absurd cc) in
      let same : write_failed ≡ refused = sym is ∙ refusals e short f in absurd cc

  module _ {S : Type 0} (left : S → Option (List ℕ)) (faults : S → ℕ) where
    -- the bytes come to the value, or are refused
    pub finds : (source source' : S) (bytes : List ℕ) (memory : E) (result : Result V E) → cause memory ≡ no_memory →
        ((e : E) → length bytes ≤ limit → Found bytes (Err e) → cause e ≡ refused)
        → AreReadWhole limit left faults source source' bytes → IfOk result (λ v. Found bytes (Ok v)) → IfErr result (λ e. e ≢ memory → Found bytes (Err e))
        → Reads limit cause Found left faults source source' result
    finds source source' bytes memory (Ok v) memory_is refusals whole found errors = record {
      read = (bytes, whole.fits, omega (arith, whole.short), whole.consumed, (found, whole.end));
      read_fault = λ h. absurd h;
      uncounted = λ other. whole.uncounted;
      later = omega (arith, whole.uncounted);
    }
    finds source source' bytes memory (Err e) memory_is refusals whole found errors = record {
      read = (
        bytes,
        whole.fits,
        omega (arith, whole.short),
        whole.consumed,
        error_found e memory (cause e) bytes (left source') refl memory_is refusals whole.short whole.end errors,
      );
      read_fault = λ h.
          let f = errors (λ k. let same : read_failed ≡ no_memory = sym h ∙ ap cause k ∙ memory_is in absurd cc) in
          let same : read_failed ≡ refused = sym h ∙ refusals e whole.short f in
          absurd cc;
      uncounted = λ other. whole.uncounted;
      later = omega (arith, whole.uncounted);
    }

    -- reading them failed
    unread_as : (source source' : S) (e : ReadError) (d : E) (c : Cause) → cause d ≡ c → c ≡ read_cause e
        → TakesAtMost (limit + 1) (left source) (left source') → faults source ≤ faults source'
        → (e ≡ read_errors.ReadFault → FaultCounted (faults source) (faults source'))
        → (¬ (read_err e ≡ read_err read_errors.ReadFault) → faults source' ≡ faults source)
        → (e ≡ read_errors.TooLong → Takes (limit + 1) (left source) (left source'))
        → Reads limit cause Found left faults source source' (Err d)
    unread_as source source' read_errors.ReadFault d c is same (bytes, fits, short, consumed) later counted uncounted takes =
        let cause_is : cause d ≡ read_failed = is ∙ same in
        record {
          read = (bytes, fits, short, consumed, subst (λ (k : Cause). ErrorFinds limit Found k d bytes (left source')) (sym cause_is) tt);
          read_fault = λ h. counted refl;
          uncounted = λ other. absurd (other cause_is);
          later = later;
        }
    unread_as source source' read_errors.Memory d c is same (bytes, fits, short, consumed) later counted uncounted takes =
        let cause_is : cause d ≡ no_memory = is ∙ same in
        record {
          read = (bytes, fits, short, consumed, subst (λ (k : Cause). ErrorFinds limit Found k d bytes (left source')) (sym cause_is) tt);
          read_fault = λ h. let both : no_memory ≡ read_failed = sym cause_is ∙ h in absurd cc;
          uncounted = λ other. uncounted (λ h. absurd cc);
          later = later;
        }
    unread_as source source' read_errors.TooLong d c is same most later counted uncounted takes =
        let (bytes, fits, long, consumed) = takes refl in
        let cause_is : cause d ≡ too_long = is ∙ same in
        record {
          read = (
            bytes,
            fits,
            omega (arith, long),
            consumed,
            subst (λ (k : Cause). ErrorFinds limit Found k d bytes (left source')) (sym cause_is) (omega (arith, long)),
          );
          read_fault = λ h. let both : too_long ≡ read_failed = sym cause_is ∙ h in absurd cc;
          uncounted = λ other. uncounted (λ h. absurd cc);
          later = later;
        }

    pub unread : (source source' : S) (result : Result V E) (e : ReadError) (d : E) → cause d ≡ read_cause e
        → TakesAtMost (limit + 1) (left source) (left source') → faults source ≤ faults source'
        → (e ≡ read_errors.ReadFault → FaultCounted (faults source) (faults source'))
        → (¬ (read_err e ≡ read_err read_errors.ReadFault) → faults source' ≡ faults source)
        → (e ≡ read_errors.TooLong → Takes (limit + 1) (left source) (left source'))
        → IsErrAnd result (λ x. x ≡ d) → Reads limit cause Found left faults source source' result
    unread source source' result e d is most later counted uncounted takes err =
        subst (Reads limit cause Found left faults source source') (sym (is_err result d err))
        (unread_as source source' e d (cause d) refl is most later counted uncounted takes)
