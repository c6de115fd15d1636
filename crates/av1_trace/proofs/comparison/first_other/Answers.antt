use Rattle.std.proofs.Common.{arith}
use Rattle.av1_plan.specs.Values.{plan_value}
use Rattle.av1_trace.proofs.Comparing.{IsRectangle, all_agree, first_is, one_row_more}
use Rattle.av1_trace.proofs.comparison.first_other.Goals as goal

pub loop-y-init : goal.loop-y-init
loop-y-init g c = λ x r a b t u. absurd (omega arith)

pub loop-y-preserved : goal.loop-y-preserved
loop-y-preserved g c = one_row_more (plan_value c.args.plan.now) c.args.planes.now c.args.p _ _ _ c.loop-y.y c.loop-y.invariant c.in_default.ensures.none

pub returns-in-Some : goal.returns-in-Some
returns-in-Some g c =
    let box : IsRectangle (plan_value c.args.plan.now).header c.args.p c.args.area c.from-left.result c.min-right.result c.from-top.result c.min-bottom.result =
    record { left_is = cc; right_is = cc; top_is = cc; bottom_is = cc } in
    first_is (plan_value c.args.plan.now) c.args.planes.now c.args.n c.args.p c.args.area _ _ _ _ c.loop-y.y c.in-Some.other box (omega arith)
    c.loop-y-test.true c.in-Some.ensures.some c.loop-y.invariant

pub returns : goal.returns
returns g c =
    let box : IsRectangle (plan_value c.args.plan.now).header c.args.p c.args.area c.from-left.result c.min-right.result c.from-top.result c.min-bottom.result =
    record { left_is = cc; right_is = cc; top_is = cc; bottom_is = cc } in
    all_agree (plan_value c.args.plan.now) c.args.planes.now c.args.n c.args.p c.args.area _ _ _ _ c.loop-y.y box c.loop-y-test.false c.loop-y.invariant
