use Rattle.av1_avail.proofs.Halved.{some_units}
use Rattle.av1_avail.proofs.superblock.units_of_superblock.Goals as goal

pub returns-clause-some : goal.returns-clause-some
returns-clause-some c = some_units c.args.ss c.requires
