-- The lines of a state that was reconstructed.
use Rattle.std.proofs.Common.{◌≡◌, ℕ, List, length, sum, sym, ap, subst, ◌∙◌}
use Rattle.av1_plan.specs.Values.{plan_value, stored_leaves, stored_triples}
use Rattle.av1_plan.specs.declared.header.Header.{Header}
use Rattle.av1_plan.specs.declared.plan.Plan.{Plan}
use Rattle.av1_plan.specs.Plan.{PlanValue}
use Rattle.av1_tile.specs.Edge.{sample_of}
use Rattle.av1_plan.proofs.Spans.{length-leaf_values}
use Rattle.av1_tile.specs.Canvas.{Component, Y, U, V}
use Rattle.av1_tile.specs.PlaneBlocks.{number, shown_of}
use Rattle.av1_tile.specs.State.{Picture, state_header, shown}
use Rattle.av1_tile.specs.Output.{by_rows, planes_of, visible}
use Rattle.av1_tile.specs.Reference.{slow_walk}
use Rattle.av1_recon.specs.Lines.{four_lines, visible_sum, sum_lines}
use Rattle.av1_recon.proofs.SamplesByBytes.{same_rows}

-- the sum of the samples that a state shows of a plane
abbrev state_sum : {T : Type 0} → (T → ℕ) → Picture T → Component → Header → ℕ
state_sum num s k h = sum (by_rows (shown_of h (number k)) (shown num s k))

-- the lines of the same numbers
same_lines : {n y u v n' y' u' v' : ℕ} → n ≡ n' → y ≡ y' → u ≡ u' → v ≡ v' → four_lines n y u v ≡ four_lines n' y' u' v'
same_lines a b c d = cc (a, b, c, d)

-- the sum by the samples of the slow definition
slow_sum : {T : Type 0} (num : T → ℕ) (s : Picture T) (plan : PlanValue) (k : Component) (n : ℕ) → state_header s ≡ plan.header →
    visible (state_header s) (shown num s) ≡ planes_of plan
    → n ≡ state_sum num s k (state_header s) → n ≡ visible_sum plan k
unfolding planes_of
slow_sum num s plan k n e reconstructed is =
    let same = subst (λ (g : Header). visible g (shown num s) ≡ planes_of plan) e reconstructed in
    is ∙ ap (state_sum num s k) e ∙ ap sum (same_rows plan.header (shown num s) (λ component x y. sample_of (slow_walk plan component x y)) same k)

-- the lines of a plan, of the numbers that a state shows
pub sums_of : {T : Type 0} (num : T → ℕ) (s : Picture T) (p : Plan) (leaves y u v : ℕ) (lines : List ℕ) → state_header s ≡ (plan_value p).header
    → visible (state_header s) (shown num s) ≡ planes_of (plan_value p) → leaves ≡ length (stored_leaves p)
    → y ≡ state_sum num s Y (state_header s) → u ≡ state_sum num s U (state_header s) → v ≡ state_sum num s V (state_header s)
    → lines ≡ four_lines leaves y u v → lines ≡ sum_lines (plan_value p)
unfolding sum_lines
sums_of num s p leaves y u v lines e reconstructed many of_y of_u of_v are =
    let plan = plan_value p in
    let n : leaves ≡ length plan.leaves = many ∙ sym (length-leaf_values (stored_triples p) (stored_leaves p)) in
    are ∙ same_lines n (slow_sum num s plan Y y e reconstructed of_y) (slow_sum num s plan U u e reconstructed of_u)
    (slow_sum num s plan V v e reconstructed of_v)
