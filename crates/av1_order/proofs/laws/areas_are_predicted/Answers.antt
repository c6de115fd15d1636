use Rattle.av1_order.proofs.WholeAreas.{inter_is_whole, residues_find_samples}
use Rattle.av1_order.proofs.laws.areas_are_predicted.Goals as goal

pub returns-clause-whole : goal.returns-clause-whole
returns-clause-whole c = inter_is_whole

pub returns-clause-added : goal.returns-clause-added
returns-clause-added c = residues_find_samples
