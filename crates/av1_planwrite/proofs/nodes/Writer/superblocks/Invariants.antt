use Rattle.std.proofs.Common.{◌≡◌}
use Rattle.av1_plan.specs.Walk.{remaining, weight}
use Rattle.av1_planwrite.specs.Text.{superblocks_written}
use Rattle.av1_planwrite.specs.Writing.{draft, remaining_written}
use Rattle.av1_planwrite.proofs.nodes.Writer.superblocks.Given as goal

abbrev pub invariant-parts : goal.invariant-parts
invariant-parts l = record {
  text : remaining_written l.header (remaining l.walk) (draft l.self) ≡ superblocks_written l.header (draft l.initial.self);
  frame : l.walk.header ≡ l.header;
}

abbrev pub decreases-parts : goal.decreases-parts
decreases-parts l = weight (remaining l.walk)
