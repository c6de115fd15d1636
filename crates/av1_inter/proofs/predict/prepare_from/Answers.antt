use Rattle.std.proofs.Common.{rules}
use Rattle.av1_inter.proofs.References.{reference_found}
use Rattle.av1_inter.proofs.predict.prepare_from.Goals as goal

pub prepare_moved-requires-clause-reference : goal.prepare_moved-requires-clause-reference
prepare_moved-requires-clause-reference g c = search (rules, reference_found)
