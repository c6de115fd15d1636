use Rattle.std.proofs.Common.{◌≡◌, true, false, Some, None, sym, ◌∙◌, append-nil, rules}
use Rattle.av1_plan.specs.Values.{plan_value, stored_triples}
use Rattle.av1_plan.specs.Plan.{leaf_value}
use Rattle.av1_trace.proofs.Comparing.{none_uncovered, some_covered}
use Rattle.av1_trace.proofs.comparison.add_in_plane.Goals as goal

pub returns-then-not-covers_plane : goal.returns-then-not-covers_plane
returns-then-not-covers_plane g c =
    let uncovered : c.covers_plane.result ≡ false = search rules in
    none_uncovered (plan_value c.args.plan.now) c.args.planes.now c.args.n c.args.p (leaf_value (stored_triples c.args.plan.now) c.args.leaf.now)
    c.header-header.result.now c.args.list.now.items c.header-header.ensures.value
    (sym c.covers_plane.ensures ∙ uncovered)

pub returns-in_ok-push : goal.returns-in_ok-push
returns-in_ok-push g c =
    let covered : c.covers_plane.result ≡ true = search rules in
    c.in_ok-push.ensures.items
    ∙ some_covered (plan_value c.args.plan.now) c.args.planes.now c.args.n c.args.p (leaf_value (stored_triples c.args.plan.now) c.args.leaf.now)
    c.header-header.result.now c.plane_area-area.result (Some c.in-Some.found) c.args.list.now.items
    c.header-header.ensures.value (sym c.covers_plane.ensures ∙ covered) c.plane_area-area.ensures c.in-Some.ensures

pub returns-in_default : goal.returns-in_default
returns-in_default g c =
    let covered : c.covers_plane.result ≡ true = search rules in
    sym (append-nil c.args.list.now.items)
    ∙ some_covered (plan_value c.args.plan.now) c.args.planes.now c.args.n c.args.p (leaf_value (stored_triples c.args.plan.now) c.args.leaf.now)
    c.header-header.result.now c.plane_area-area.result None c.args.list.now.items
    c.header-header.ensures.value (sym c.covers_plane.ensures ∙ covered) c.plane_area-area.ensures c.in_default.ensures
