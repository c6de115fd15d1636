use Rattle.std.proofs.Common.{rules}
use Rattle.av1_inter.proofs.References.{reference_found}
use Rattle.av1_inter.proofs.predict.predict_inter_single.Goals as goal

pub put_moved-requires-clause-reference : goal.put_moved-requires-clause-reference
put_moved-requires-clause-reference g c = search (rules, reference_found)
