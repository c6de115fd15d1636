-- A row of a plane: given samples and samples of the plan.
use Rattle.std.specs.Prelude.{◌≡◌, ◌≢◌, ◌<◌, ◌≤◌, ℕ, List}
use Rattle.av1_plan.specs.Plan.{PlanValue}
use Rattle.av1_trace.specs.declared.comparison.Other.{Other}
use Rattle.av1_trace.specs.Samples.{defined, given}

-- samples of row y of plane p agree from column `left` on and before column `right`
abbrev pub AgreeFrom : PlanValue → List ℕ → (p y left right : ℕ) → Type 0
AgreeFrom plan bytes p y left right = (x : ℕ) → left ≤ x → x < right →
    given plan.header bytes p x y ≡ defined plan p x y

-- the first sample there that differs, with both values
pub record IsOther (plan : PlanValue) (bytes : List ℕ) (p y left right : ℕ) (other : Other) : Type 0 where
  pub from : left ≤ other.column
  pub before : other.column < right
  pub given_is : other.given ≡ given plan.header bytes p other.column y
  pub defined_is : other.defined ≡ defined plan p other.column y
  pub differs : other.given ≢ other.defined
  pub first : AgreeFrom plan bytes p y left other.column
