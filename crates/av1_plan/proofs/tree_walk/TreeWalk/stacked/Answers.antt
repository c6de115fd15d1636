use Rattle.std.proofs.Common.{◌++◌, List, refl, ap}
use Rattle.av1_plan.specs.declared.nodes.Part.{Part}
use Rattle.av1_plan.specs.Remaining.{superblocks_from}
use Rattle.av1_plan.proofs.Walks.{is_next}
use Rattle.av1_plan.proofs.tree_walk.TreeWalk.stacked.Goals as goal

pub returns-clause-stack : goal.returns-clause-stack
returns-clause-stack c =
    let w = c.args.self.now in
    ap (λ (ps : List Part). ps ++ superblocks_from w.header w.left.row w.left.col) c.stacked.ensures.stack

pub returns-clause-stopped : goal.returns-clause-stopped
returns-clause-stopped c =
    let w = c.args.self.now in
    rw (is_next w.header w.left.row w.left.col w.rows w.cols w.last, c.stacked.ensures.stacked) refl
