use Rattle.std.proofs.Common.{rules}
use Rattle.av1_itx.proofs.adding.add_one.Goals as goal

pub returns : goal.returns
returns g c = search rules
