use Rattle.std.proofs.Common.{arith, refl}
use Rattle.av1_plan.specs.Plan.{leaf_values, Follow}
use Rattle.av1_plan.proofs.parser.Parser.new.Goals as goal

pub returns-clause-sound : goal.returns-clause-sound
unfolding Follow
returns-clause-sound c = record {
  follow = rw (c.new.ensures.items, c.new-2.ensures.items) refl;
  room = rw c.new-2.ensures.items (omega arith);
  few = rw c.new.ensures.items (omega arith);
}

pub returns-clause-state : goal.returns-clause-state
unfolding leaf_values
returns-clause-state c = rw c.new.ensures.items refl
