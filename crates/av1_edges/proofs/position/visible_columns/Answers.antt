use Rattle.std.proofs.Common.{rules}
use Rattle.av1_edges.proofs.position.visible_columns.Goals as goal

pub returns : goal.returns
returns g c = search rules
