-- How many differences there are: at most three for each leaf.
use Rattle.std.proofs.Common.{◌≡◌, ℕ, ◌+◌, ◌*◌, ◌<◌, ◌≤◌, ◌^◌, true, false, Bool, List, [], ◌∷◌, ◌++◌, length, Option, Some, None, ap, arith, length-append}
use Rattle.std.proofs.lemmas.List.{length-map}
use Rattle.std.specs.Prelude.{if◌then◌else◌}
use Rattle.av1_plan.specs.Values.{plan_value, stored_leaves, stored_triples}
use Rattle.av1_plan.specs.Geometry.{covers_plane, plane_area}
use Rattle.av1_plan.specs.Plan.{LeafValue, PlanValue, leaf_value, leaf_values}
use Rattle.av1_plan.specs.declared.plan.Plan.{Plan}
use Rattle.av1_trace.specs.Differences.{differences, entries, first_difference, leaf_differences, leaves_differences, plane_differences}
use Rattle.av1_trace.specs.declared.entry.Difference.{Difference}

few_entries : (d : Option Difference) → length (entries d) ≤ 1
few_entries None = omega arith
few_entries (Some d) = omega arith

few_if : (b : Bool) (ds : List Difference) → length ds ≤ 1 → length (if b then ds else []) ≤ 1
few_if true ds h = h
few_if false ds h = omega arith

few_in_plane : (plan : PlanValue) (bytes : List ℕ) (n : ℕ) (l : LeafValue) (p : ℕ) → length (plane_differences plan bytes n l p) ≤ 1
unfolding plane_differences
few_in_plane plan bytes n l p =
    few_if (covers_plane plan.header l.x l.y l.size p) (entries (first_difference plan bytes n p (plane_area plan.header l.x l.y l.size l.tx_size p)))
    (few_entries (first_difference plan bytes n p (plane_area plan.header l.x l.y l.size l.tx_size p)))

few_of_leaf : (plan : PlanValue) (bytes : List ℕ) (n : ℕ) (l : LeafValue) → length (leaf_differences plan bytes n l) ≤ 3
few_of_leaf plan bytes n l =
    let y = plane_differences plan bytes n l 0 in
    let u = plane_differences plan bytes n l 1 in
    let v = plane_differences plan bytes n l 2 in
    omega (arith, length-append (y ++ u) v, length-append y u, few_in_plane plan bytes n l 0, few_in_plane plan bytes n l 1, few_in_plane plan bytes n l 2)

few_of_leaves : (plan : PlanValue) (bytes : List ℕ) (n : ℕ) (leaves : List LeafValue) → length (leaves_differences plan bytes n leaves) ≤ 3 * length leaves
few_of_leaves plan bytes n [] = omega arith
few_of_leaves plan bytes n (l ∷ leaves) =
    omega (
      arith,
      length-append (leaf_differences plan bytes n l) (leaves_differences plan bytes (n + 1) leaves),
      few_of_leaf plan bytes n l,
      few_of_leaves plan bytes (n + 1) leaves,
    )

-- a plan has few leaves, so it has few differences
pub few_differences : (plan : Plan) (bytes : List ℕ) (list : List Difference) → list ≡ differences (plan_value plan) bytes → length list < 2 ^ 32
unfolding differences leaf_values
few_differences plan bytes list are =
    let many : length (plan_value plan).leaves ≡ length (stored_leaves plan) = length-map (stored_leaves plan) (leaf_value (stored_triples plan)) in
    let all = few_of_leaves (plan_value plan) bytes 0 (plan_value plan).leaves in
    omega (arith, ap length are, all, many, plan.leaves.few, plan.leaves.leaves.ok.0)
