use Rattle.std.proofs.Common.{rules}
use Rattle.av1_edges.proofs.position.TransformPosition.num_avail_above.Goals as goal

pub returns-clause-value : goal.returns-clause-value
returns-clause-value g c = search rules
