-- What a call does that reads a plan from a source to its end and checks it.
use Rattle.std.specs.Prelude.{◌≡◌, ℕ, List, Option, None, Result, Ok, Err}
use Rattle.av1_plan.specs.Values.{plan_value}
use Rattle.av1_plan.specs.Validity.{first_fault}
use Rattle.av1_plan.specs.declared.plan.Plan.{Plan}
use Rattle.av1_streams.specs.Streams.{max_plan_bytes}
use Rattle.av1_streams.specs.Tasks.{Reads}
use Rattle.av1_recon.specs.declared.error.ReconError.{ReconError}
use Rattle.av1_recon.specs.Outcomes.{ArePlan, AreRefusedFor, cause}

-- what is found in bytes: the valid plan whose text they are, or why they are rejected
abbrev pub IsFound : List ℕ → Result Plan ReconError → Type 0
IsFound bytes (Ok plan) = ArePlan bytes (plan_value plan) × (first_fault (plan_value plan) ≡ None)
IsFound bytes (Err e) = AreRefusedFor bytes e

abbrev pub ReadsPlan : {S : Type 0} → (S → Option (List ℕ)) → (S → ℕ) → S → S → Result Plan ReconError → Type 0
ReadsPlan left faults source source' result = Reads max_plan_bytes cause IsFound left faults source source' result
