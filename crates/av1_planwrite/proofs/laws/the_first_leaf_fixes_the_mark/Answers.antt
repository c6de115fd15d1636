use Rattle.av1_planwrite.proofs.MarkTrees.{marks_fixed}
use Rattle.av1_planwrite.proofs.laws.the_first_leaf_fixes_the_mark.Goals as goal

pub returns : goal.returns
returns c = marks_fixed
