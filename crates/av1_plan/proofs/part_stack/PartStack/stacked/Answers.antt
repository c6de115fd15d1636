use Rattle.std.proofs.Common.{refl}
use Rattle.std.proofs.lemmas.Bool.{le-leb}
use Rattle.av1_plan.proofs.part_stack.PartStack.stacked.Goals as goal

pub returns-clause-stack : goal.returns-clause-stack
returns-clause-stack c = c.self.view_is

pub returns-clause-stacked : goal.returns-clause-stacked
returns-clause-stacked c = rw (le-leb c.self.inside.count 13 c.self.invariant.1, c.self.invariant.2) refl
