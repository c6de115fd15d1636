use Rattle.av1_itx.proofs.Sizes.{those_that_run}
use Rattle.av1_itx.proofs.laws.valid_types_are_those_that_run.Goals as goal

pub returns : goal.returns
returns c = those_that_run
