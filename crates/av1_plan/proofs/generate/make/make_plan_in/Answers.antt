use Rattle.std.proofs.Common.{◌≡◌, ◌≤◌, ◌^◌, ℕ, List, length, sym, subst, arith}
use Rattle.av1_plan.specs.Generator.{plan_bytes_in}
use Rattle.av1_plan.specs.Text.{ArePlan, AreFaultless}
use Rattle.av1_plan.proofs.PlanFills.{plan_in, faultless_in, few_bytes_in}
use Rattle.av1_plan.proofs.generate.make.make_plan_in.Goals as goal

pub returns-clause-plan : goal.returns-clause-plan
returns-clause-plan c =
    let e : c.in_ok-bytes.bytes.items ≡ plan_bytes_in c.args.version c.args.number = c.in_ok-bytes.ensures in
    subst (λ (bytes : List ℕ). ArePlan bytes) (sym e) (plan_in c.args.version c.args.number c.requires.version)

pub returns-clause-faultless : goal.returns-clause-faultless
returns-clause-faultless c =
    let e : c.in_ok-bytes.bytes.items ≡ plan_bytes_in c.args.version c.args.number = c.in_ok-bytes.ensures in
    subst (λ (bytes : List ℕ). AreFaultless bytes) (sym e) (faultless_in c.args.version c.args.number c.requires.version)

pub returns-clause-few : goal.returns-clause-few
returns-clause-few c =
    let e : c.in_ok-bytes.bytes.items ≡ plan_bytes_in c.args.version c.args.number = c.in_ok-bytes.ensures in
    let few : length c.in_ok-bytes.bytes.items ≤ 2 ^ 26 = rw e (few_bytes_in c.args.version c.args.number c.requires.version) in
    omega (arith, c.in_ok-bytes.bytes.ok.0)
