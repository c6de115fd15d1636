-- What a plan needs after some of its fields: first the remaining slots, and then parts, one after the other.
use Rattle.std.specs.Prelude.{◌≡◌, ℕ, ◌-◌, List, [], ◌∷◌, ◌++◌, Option}
use Rattle.av1_plan.specs.declared.header.Header.{Header}
use Rattle.av1_plan.specs.declared.nodes.Part.{Part}
use Rattle.av1_plan.specs.Format.{Format, done, asks, IsAdmitted, ◌>>=◌, lone, in_turn}
use Rattle.av1_plan.specs.Grammar.{slot_planes}
use Rattle.av1_plan.specs.Plan.{LeafValue, PlanValue}
use Rattle.av1_plan.specs.Remaining.{parts_format}

-- The rest of a plan whose header and first slots and leaves are known. It needs the slots from this one on, and then
-- the fields of these parts. The result is the plan with the known slots and leaves and then the new ones.
unfoldable pub asked_for : Header → (slot : ℕ) → List Part → List (Option (List (List ℕ))) → List LeafValue →
    Format PlanValue
asked_for h slot parts stored leaves = do
  more ← in_turn (λ i. lone (slot_planes h i)) slot (8 - slot)
  later ← parts_format h parts
  done (record { header = h; references = stored ++ more; leaves = leaves ++ later })

-- Each value is valid for the field that the format needs after the values before it. After all of the values the
-- format is g.
abbrev pub After : {A : Type 0} → Format A → List ℕ → Format A → Type 0
After f [] g = f ≡ g
After (done x) (v ∷ vs) g = ⊥
After (asks k next) (v ∷ vs) g = IsAdmitted k v × After (next v) vs g
