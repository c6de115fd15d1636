use Rattle.av1_tile.proofs.Lookups.{output_is_there, steps_are_answered, steps_find_samples}
use Rattle.av1_tile.proofs.laws.look_ups_find_samples.Goals as goal

pub returns-clause-at_steps : goal.returns-clause-at_steps
returns-clause-at_steps c = steps_find_samples

pub returns-clause-at_end : goal.returns-clause-at_end
returns-clause-at_end c = output_is_there

pub returns-clause-answered : goal.returns-clause-answered
returns-clause-answered c = steps_are_answered
