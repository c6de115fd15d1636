-- Statements about the bytes of plans that are made.
use Rattle.std.specs.Prelude.{◌≡◌, ℕ, List, None}
use Rattle.av1_plan.specs.Grammar.{plan}
use Rattle.av1_plan.specs.Plan.{PlanValue}
use Rattle.av1_plan.specs.Spelling.{AreText}
use Rattle.av1_plan.specs.Validity.{first_fault}

-- the bytes are the text of a plan
abbrev pub ArePlan : List ℕ → Type 0
ArePlan bytes = (p : PlanValue) × AreText plan bytes p

-- no leaf of a plan with this text is faulty
abbrev pub AreFaultless : List ℕ → Type 0
AreFaultless bytes = (p : PlanValue) → AreText plan bytes p → first_fault p ≡ None
