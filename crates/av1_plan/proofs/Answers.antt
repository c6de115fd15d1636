-- What the answer of a reading says.
use Rattle.std.proofs.Common.{◌≡◌, ℕ, List, Result, Ok, Err, refl, subst, sym}
use Rattle.std.specs.Prelude.{IfOk, MatchResult}
use Rattle.av1_plan.specs.declared.error.PlanError.{PlanError}
use Rattle.av1_plan.specs.declared.error.PlanError.TheVariants as errors
use Rattle.av1_plan.specs.Format.{Format, start, Reading, read_all}
use Rattle.av1_plan.specs.Spelling.{AreText, AreRefused, IsSpelled}
use Rattle.av1_plan.specs.Reading.{Gives}
use Rattle.av1_plan.specs.Values.{IfMalformed}
use Rattle.av1_plan.proofs.Fields.{AreBytes}
use Rattle.av1_plan.proofs.Spelled.{all_again, all_found, all_refused, ok, ok_is}

-- what all of the bytes spell is spelled
pub is_spelled : {Y : Type 0} (f : Format Y) (bytes : List ℕ) (y : Y) → AreBytes bytes → read_all f (start bytes) ≡ Ok y → IsSpelled f y
is_spelled f bytes y fits e = let t = all_found f bytes y fits e in record { values = t.0; spells = t.1 }

module _ {X Y : Type 0} (view : X → Y) (f : Format Y) (bytes : List ℕ) where
  pub is_found : (r : Result X PlanError) → AreBytes bytes → Gives view r (read_all f (start bytes)) → IfOk r (λ x. AreText f bytes (view x))
  is_found (Ok x) fits given = all_found f bytes (view x) fits given
  is_found (Err e) fits given = tt

  pub is_refused : (r : Result X PlanError) → AreBytes bytes → Gives view r (read_all f (start bytes)) → IfMalformed r (λ d. AreRefused f bytes d)
  is_refused (Ok x) fits given = tt
  is_refused (Err errors.Memory) fits given = tt
  is_refused (Err (errors.Malformed at)) fits given = all_refused f bytes at fits given

  clash : {P : Type 0} (y : Y) (at : ℕ) → ok y ≡ Err at → P
  clash y at e = absurd cc

  tells : (y : Y) (r : Result X PlanError) → Gives view r (ok y) → MatchResult r (λ x. view x ≡ y) (λ e. e ≡ errors.Memory)
  tells y (Ok x) given = sym (ok_is y (view x) given)
  tells y (Err errors.Memory) given = refl
  tells y (Err (errors.Malformed at)) given = clash y at given

  pub is_only : (y : Y) (r : Result X PlanError) → AreText f bytes y → Gives view r (read_all f (start bytes)) →
      MatchResult r (λ x. view x ≡ y) (λ e. e ≡ errors.Memory)
  is_only y r t given = tells y r (subst (λ (reading : Reading Y). Gives view r reading) (all_again f bytes y t) given)
