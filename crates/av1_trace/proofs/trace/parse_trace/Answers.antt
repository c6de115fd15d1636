use Rattle.av1_plan.specs.Values.{plan_value}
use Rattle.av1_trace.proofs.Refusals.{no_parts, planes_cut, planes_left_over}
use Rattle.av1_trace.proofs.trace.parse_trace.Goals as goal

pub returns-in_err-parts-clause-refused : goal.returns-in_err-parts-clause-refused
returns-in_err-parts-clause-refused c =
    no_parts c.args.bytes.now c.from_residual.result c.in_err-parts.field-0.0 c.requires.short c.from_residual.ensures.1 c.in_err-parts.ensures.refused

pub returns-then-parts-len-clause-refused : goal.returns-then-parts-len-clause-refused
returns-then-parts-len-clause-refused c =
    planes_cut c.args.bytes.now c.in_ok-parts.parts.plan.now c.in_ok-parts.parts.planes.now (plan_value c.in_ok-plan.plan) c.header.result.now
    c.planes_len-len.result c.malformed.result c.requires.short
    c.in_ok-parts.ensures.found c.in_ok-plan.ensures.found c.planes_len-len.ensures c.header.ensures.value c.if-parts-len.true c.malformed.ensures

pub returns-then-parts-len-2-clause-refused : goal.returns-then-parts-len-2-clause-refused
returns-then-parts-len-2-clause-refused c =
    planes_left_over c.args.bytes.now c.in_ok-parts.parts.plan.now c.in_ok-parts.parts.planes.now (plan_value c.in_ok-plan.plan) c.header.result.now
    c.planes_len-len.result c.malformed-then-parts-len-2.result c.requires.short
    c.in_ok-parts.ensures.found c.in_ok-plan.ensures.found c.planes_len-len.ensures c.header.ensures.value c.if-parts-len-2.true
    c.malformed-then-parts-len-2.ensures
