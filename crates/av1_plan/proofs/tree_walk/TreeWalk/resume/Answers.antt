use Rattle.std.proofs.Common.{◌++◌, List, Option, refl, sym, ap, ◌∙◌}
use Rattle.std.specs.Prelude.{is_some}
use Rattle.av1_plan.specs.declared.nodes.Part.{Part}
use Rattle.av1_plan.specs.Remaining.{superblocks_from}
use Rattle.av1_plan.proofs.Walks.{next_is}
use Rattle.av1_plan.proofs.tree_walk.TreeWalk.resume.Goals as goal

pub invariant_of-result : goal.invariant_of-result
invariant_of-result c =
    let n = next_is c.args.header.now c.args.left.row c.args.left.col (sym c.are_of.ensures ∙ c.if-not-are_of.false) in
    record { width = c.requires.width; height = c.requires.height; rows = n.rows; cols = n.cols; last = n.last }

pub returns-clause-parts : goal.returns-clause-parts
returns-clause-parts c = ap (λ (ps : List Part). ps ++ superblocks_from c.args.header.now c.args.left.row c.args.left.col) c.in-Some.ensures.stack

pub returns-clause-exactly : goal.returns-clause-exactly
returns-clause-exactly c =
    let next = sym c.are_of.ensures ∙ c.if-not-are_of.false in
    let stacked = sym c.from_stacked.ensures.exactly ∙ ap (λ (o : Option (List Part)). is_some o) c.in-Some.is in
    rw (next, sym stacked) refl
