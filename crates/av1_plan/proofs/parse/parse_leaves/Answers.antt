use Rattle.std.proofs.Common.{arith}
use Rattle.av1_plan.specs.declared.leaves.Leaves.{Leaves}
use Rattle.av1_plan.specs.Values.{leaves_value}
use Rattle.av1_plan.specs.Grammar.{superblocks}
use Rattle.av1_plan.proofs.Answers.{is_found, is_refused, is_only}
use Rattle.av1_plan.proofs.parse.parse_leaves.Goals as goal

pub returns-clause-found : goal.returns-clause-found
returns-clause-found c =
    is_found (λ (l : Leaves). leaves_value l) (superblocks c.args.header.now) c.args.bytes.now c.read_leaves.result
    (λ i. omega (arith, c.type_inv.bytes i)) c.read_leaves.ensures

pub returns-clause-refused : goal.returns-clause-refused
returns-clause-refused c =
    is_refused (λ (l : Leaves). leaves_value l) (superblocks c.args.header.now) c.args.bytes.now c.read_leaves.result
    (λ i. omega (arith, c.type_inv.bytes i)) c.read_leaves.ensures

pub returns-clause-only : goal.returns-clause-only
returns-clause-only c = λ leaves t.
    is_only (λ (l : Leaves). leaves_value l) (superblocks c.args.header.now) c.args.bytes.now leaves c.read_leaves.result t c.read_leaves.ensures
