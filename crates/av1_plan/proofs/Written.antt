-- Drafts that are written by states and by the numbers of draws.
use Rattle.std.proofs.Common.{◌≡◌, ℕ, suc, List, [], refl, ◌∙◌, ap}
use Rattle.av1_plan.specs.Draft.{Draft, nothing, writes, draws, ◌>>◌, written}
use Rattle.av1_plan.specs.Generator.{plan, plan_bytes_in}
use Rattle.av1_plan.specs.Making.{run}
use Rattle.av1_plan.specs.Numbers.{state_after, number_of, state, drawn}

-- from the state after i draws on, the states are those after as many draws
by_state : (seed : ℕ) (d : Draft) (bytes : List ℕ) (i : ℕ) →
    written state_after number_of d (bytes, state seed i)
    ≡ ((written suc (drawn seed) d (bytes, i)).0, state seed (written suc (drawn seed) d (bytes, i)).1)
unfolding state drawn
by_state seed nothing bytes i = refl
by_state seed (writes size v) bytes i = refl
by_state seed (draws k d) bytes i = by_state seed (d _) bytes (suc i)
by_state seed (d >> e) bytes i =
    ap (written state_after number_of e) (by_state seed d bytes i)
    ∙ by_state seed e (written suc (drawn seed) d (bytes, i)).0 (written suc (drawn seed) d (bytes, i)).1

-- what is made state by state is the plan of the number
pub by_draws : (version number : ℕ) → (run (plan version number) ([], number)).0 ≡ plan_bytes_in version number
unfolding plan_bytes_in state
by_draws version number = ap (λ (p : List ℕ × ℕ). p.0) (by_state number (plan version number) [] 0)
