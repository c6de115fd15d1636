-- What is left where planes and predictions could not both be written.
use Rattle.std.proofs.Common.{◌≡◌, ℕ, ◌≤◌, List, Option, Ok, Err, inl, inr, refl, sym, subst, arith}
use Rattle.std.specs.Prelude.{IfErr, IsErrAnd}
use Rattle.std.specs.Io.KnownBytes.{Appends}
use Rattle.av1_plan.specs.Plan.{PlanValue}
use Rattle.av1_streams.specs.Faults.{FaultCounted}
use Rattle.av1_streams.specs.Streams.{AppendsPrefix}
use Rattle.av1_tile.specs.Output.{planes_of}
use Rattle.av1_tile.specs.Predicted.{predictions_of}
use Rattle.av1_recon.specs.declared.error.ReconError.{ReconError}
use Rattle.av1_recon.specs.declared.error.ReconError.TheVariants.{WriteFault, Memory}
use Rattle.av1_recon.specs.Outcomes.{Answer}
use Rattle.av1_recon.specs.Predictions.{FailsInTurn}
use Rattle.av1_recon.specs.Writing.{Writes}

-- what holds of the error that an answer is
of_error : (P : ReconError → Type 0) (answer : Answer) (e : ReconError) → IsErrAnd answer (λ d. d ≡ e) → P e → IfErr answer P
of_error P (Ok done) e is p = absurd is
of_error P (Err d) e is p = subst P (sym is) p

module _ {K : Type 0} (taken : K → Option (List ℕ)) (faults : K → ℕ) where
  -- memory ran out before the first byte
  unbegun : (sink : K) (bytes : List ℕ) → Writes taken faults sink sink bytes (Err Memory)
  unbegun sink bytes = record {
    ok = tt;
    uncounted = tt;
    prefix = λ h. absurd cc;
    write_fault = λ h. absurd cc;
    unwritten = λ other. (refl, refl);
    later = omega arith;
  }

  -- a write failed
  cut : (sink sink' : K) (bytes : List ℕ) → AppendsPrefix (taken sink) (taken sink') bytes → FaultCounted (faults sink) (faults sink')
      → faults sink ≤ faults sink' → Writes taken faults sink sink' bytes (Err WriteFault)
  cut sink sink' bytes prefix counted later = record {
    ok = tt;
    uncounted = tt;
    prefix = λ h. prefix;
    write_fault = λ h. counted;
    unwritten = λ other. absurd (other refl);
    later = later;
  }

  -- all was written
  done : (sink sink' : K) (bytes : List ℕ) → Appends (taken sink) (taken sink') bytes → faults sink' ≡ faults sink
      → Writes taken faults sink sink' bytes (Ok tt)
  done sink sink' bytes appended same = record {
    ok = appended;
    uncounted = same;
    prefix = λ h. absurd h;
    write_fault = λ h. absurd h;
    unwritten = tt;
    later = omega (arith, same);
  }

  module _ (plan : PlanValue) where
    pub none_begun : (planes predictions : K) (answer : Answer) → IsErrAnd answer (λ e. e ≡ Memory) →
        IfErr answer (FailsInTurn taken faults plan planes planes predictions predictions)
    none_begun planes predictions answer is =
        of_error (FailsInTurn taken faults plan planes planes predictions predictions) answer Memory is (inl (unbegun planes (planes_of plan), refl))

    pub planes_cut : (planes planes' predictions : K) (answer : Answer) → AppendsPrefix (taken planes) (taken planes') (planes_of plan)
        → FaultCounted (faults planes) (faults planes') → faults planes ≤ faults planes' → IsErrAnd answer (λ e. e ≡ WriteFault)
        → IfErr answer (FailsInTurn taken faults plan planes planes' predictions predictions)
    planes_cut planes planes' predictions answer prefix counted later is =
        of_error (FailsInTurn taken faults plan planes planes' predictions predictions) answer WriteFault is
        (inl (cut planes planes' (planes_of plan) prefix counted later, refl))

    pub predictions_cut : (planes planes' predictions predictions' : K) (answer : Answer) → Appends (taken planes) (taken planes') (planes_of plan)
        → faults planes' ≡ faults planes → AppendsPrefix (taken predictions) (taken predictions') (predictions_of plan)
        → FaultCounted (faults predictions) (faults predictions') → faults predictions ≤ faults predictions' → IsErrAnd answer (λ e. e ≡ WriteFault)
        → IfErr answer (FailsInTurn taken faults plan planes planes' predictions predictions')
    predictions_cut planes planes' predictions predictions' answer whole same prefix counted later is =
        of_error (FailsInTurn taken faults plan planes planes' predictions predictions') answer WriteFault is
        (inr (done planes planes' (planes_of plan) whole same, cut predictions predictions' (predictions_of plan) prefix counted later, refl))
