use Rattle.std.proofs.Common.{arith}
use Rattle.av1_plan.specs.declared.plan.Plan.{Plan}
use Rattle.av1_plan.specs.Values.{plan_value}
use Rattle.av1_plan.specs.Grammar.{plan}
use Rattle.av1_plan.proofs.Answers.{is_found, is_refused, is_only}
use Rattle.av1_plan.proofs.parse.parse_plan.Goals as goal

pub returns-clause-found : goal.returns-clause-found
returns-clause-found c =
    is_found (λ (p : Plan). plan_value p) plan c.args.bytes.now c.read_plan.result (λ i. omega (arith, c.type_inv.bytes i)) c.read_plan.ensures

pub returns-clause-refused : goal.returns-clause-refused
returns-clause-refused c =
    is_refused (λ (p : Plan). plan_value p) plan c.args.bytes.now c.read_plan.result (λ i. omega (arith, c.type_inv.bytes i)) c.read_plan.ensures

pub returns-clause-only : goal.returns-clause-only
returns-clause-only c = λ p t. is_only (λ (q : Plan). plan_value q) plan c.args.bytes.now p c.read_plan.result t c.read_plan.ensures
