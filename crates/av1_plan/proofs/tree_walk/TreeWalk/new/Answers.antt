use Rattle.std.proofs.Common.{◌++◌, List, ap, ◌∙◌, arith}
use Rattle.av1_plan.specs.declared.nodes.Part.{Part}
use Rattle.av1_plan.specs.Remaining.{superblocks_from}
use Rattle.av1_plan.proofs.LeftSuperblocks.{all_left}
use Rattle.av1_plan.proofs.tree_walk.TreeWalk.new.Goals as goal

pub invariant_of-result : goal.invariant_of-result
invariant_of-result c = record {
  width = c.requires.width.1;
  height = c.requires.height.1;
  rows = omega (arith, c.requires.height.0);
  cols = omega arith;
  last = λ e. absurd (omega (arith, e, c.requires.width.0));
}

pub returns-clause-parts : goal.returns-clause-parts
returns-clause-parts c =
    let h = c.args.header.now in
    ap (λ (ps : List Part). ps ++ superblocks_from h 0 0) c.new.ensures ∙ all_left h (omega (arith, c.requires.height.0))
